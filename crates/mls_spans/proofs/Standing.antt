-- Which accesses stand after an entry.
use Rattle.std.proofs.Common.{◌≡◌, ℕ, Bool, true, false, cond, List, [], ◌∷◌, map, Option, Some, None, refl, sym, ap, ◌∙◌}
use Rattle.std.specs.Prelude.{not, ◌&&◌, ◌||◌}
use Rattle.std.specs.FinSet as set
use Rattle.std.specs.List.{list_all}
use Rattle.std.proofs.lemmas.Bool.{and_parts}
use Rattle.std.proofs.lemmas.List.Folds.{list_all-append}
use Rattle.mls_requests.specs.declared.action.Action.{Action}
use Rattle.mls_requests.specs.declared.action.Action.TheVariants.{Get, Release, Give, Rescind, Create, Delete, SubjectLevel, ObjectLevel}
use Rattle.mls_requests.specs.declared.entry.Entry.{Entry}
use Rattle.mls_requests.specs.declared.reply.Reply.{Reply}
use Rattle.mls_requests.specs.declared.reply.Reply.TheVariants.{Yes, Created, No, Undefined}
use Rattle.mls_requests.specs.declared.request.Request.{Request}
use Rattle.mls_rules.specs.Rules.{reply, after, after_reply, change}
use Rattle.mls_state.specs.State.{State}
use Rattle.mls_tables.specs.Triples.{Triple, is_triple}
use Rattle.mls_tables.proofs.Laws.{contains-insert-triple}
use Rattle.mls_spans.specs.Spans.{is_held, span_of, ending_of}
use Rattle.mls_spans.specs.Sweeping.{closed, stands, begins, moved, may_take, is_granted}
use Rattle.mls_spans.specs.declared.span.Ending.{Ending}
use Rattle.mls_spans.specs.declared.span.Span.{Span}

or_there : (a b : Bool) → b ≡ true → (a || b) ≡ true
or_there true b is = refl
or_there false b is = is

-- an action that takes nothing away leaves what is held
kept_change : (v : State) (s : ℕ) (a : Action) (t : Triple) → may_take a ≡ false → is_held v t ≡ true → is_held (change v s a) t ≡ true
kept_change v s (Get x o) t none there = contains-insert-triple v.accesses (s, o, x) t ∙ or_there (is_triple t (s, o, x)) (set.contains v.accesses t) there
kept_change v s (Release x o) t none there = absurd (let no : true ≡ false = none in cc)
kept_change v s (Give x r o) t none there = there
kept_change v s (Rescind x r o) t none there = absurd (let no : true ≡ false = none in cc)
kept_change v s (Create p l i) t none there = there
kept_change v s (Delete o) t none there = absurd (let no : true ≡ false = none in cc)
kept_change v s (SubjectLevel l) t none there = there
kept_change v s (ObjectLevel o l) t none there = there

kept_reply : (r : Reply) (v w : State) (t : Triple) → is_held v t ≡ true → is_held w t ≡ true → is_held (after_reply r v w) t ≡ true
kept_reply Yes v w t old new = new
kept_reply (Created o) v w t old new = new
kept_reply (No reason) v w t old new = old
kept_reply Undefined v w t old new = old

pub kept_by_kind : (v : State) (r : Request) (t : Triple) → may_take r.action ≡ false → is_held v t ≡ true → is_held (after v r) t ≡ true
kept_by_kind v r t none there = kept_reply (reply v r) v (change v r.subject r.action) t there (kept_change v r.subject r.action t none there)

-- what isn't granted changes nothing
kept_denied : (r : Reply) (v w : State) (t : Triple) → is_granted r ≡ false → is_held v t ≡ true → is_held (after_reply r v w) t ≡ true
kept_denied Yes v w t none there = absurd (let no : true ≡ false = none in cc)
kept_denied (Created o) v w t none there = absurd (let no : true ≡ false = none in cc)
kept_denied (No reason) v w t none there = there
kept_denied Undefined v w t none there = there

-- spans whose accesses stay held stay as they are
one_stays : (v w : State) (x : Ending) (t : Triple) (made : Option ℕ) (known : Option Ending)
    → ((t : Triple) → is_held v t ≡ true → is_held w t ≡ true) → stands v (span_of t made known) ≡ true
    → closed w x (span_of t made known) ≡ (span_of t made known)
one_stays v w x t made (Some known) keeps stands = refl
one_stays v w x t made None keeps stands =
    ap (λ b. cond (not b) (span_of t made (Some x)) (span_of t made None)) (keeps t stands)

pub all_stay : (v w : State) (x : Ending) (spans : List Span) → ((t : Triple) → is_held v t ≡ true → is_held w t ≡ true)
    → list_all (stands v) spans ≡ true → spans ≡ map (closed w x) spans
all_stay v w x [] keeps all = refl
all_stay v w x (span ∷ spans) keeps all =
    let parts = and_parts (stands v span) (list_all (stands v) spans) all in
    λ i. sym (one_stays v w x span.access span.made span.ended keeps parts.0) i ∷ all_stay v w x spans keeps parts.1 i

-- what isn't ended is held
open_stands : (b : Bool) (w : State) (x : Ending) (t : Triple) (made : Option ℕ) → is_held w t ≡ b
    → stands w (cond (not b) (span_of t made (Some x)) (span_of t made None)) ≡ true
open_stands true w x t made is = is
open_stands false w x t made is = refl

closed_stands : (w : State) (x : Ending) (t : Triple) (made : Option ℕ) (known : Option Ending)
    → stands w (closed w x (span_of t made known)) ≡ true
closed_stands w x t made (Some known) = refl
closed_stands w x t made None = open_stands (is_held w t) w x t made refl

all_closed : (w : State) (x : Ending) (spans : List Span) → list_all (stands w) (map (closed w x) spans) ≡ true
all_closed w x [] = refl
all_closed w x (span ∷ spans) = λ i. closed_stands w x span.access span.made span.ended i && all_closed w x spans i

one_begins : (b : Bool) (w : State) (n : ℕ) (t : Triple) → is_held w t ≡ b
    → list_all (stands w) (cond b ((span_of t (Some n) None) ∷ []) []) ≡ true
one_begins true w n t is = λ i. is i && true
one_begins false w n t is = refl

begins_stand : (w : State) (n : ℕ) (asked : Option Triple) → list_all (stands w) (begins w n asked) ≡ true
begins_stand w n None = refl
begins_stand w n (Some t) = one_begins (is_held w t) w n t refl

pub moved_stand : (w : State) (e : Entry) (asked : Option Triple) (spans new : List Span) → new ≡ moved w e asked spans → list_all (stands w) new ≡ true
moved_stand w e asked spans new is =
    ap (list_all (stands w)) is ∙ list_all-append (stands w) (map (closed w (ending_of e)) spans) (begins w e.number asked)
    ∙ (λ i. all_closed w (ending_of e) spans i && begins_stand w e.number asked i)

pub end_by_kind : (v w : State) (r : Request) (x : Ending) (spans : List Span) → may_take r.action ≡ false → w ≡ after v r
    → list_all (stands v) spans ≡ true → spans ≡ map (closed w x) spans
end_by_kind v w r x spans none is all = all_stay v w x spans (λ t there. ap (λ k. is_held k t) is ∙ kept_by_kind v r t none there) all

pub end_denied : (v w : State) (r : Request) (answer : Reply) (x : Ending) (spans : List Span) → is_granted answer ≡ false → w ≡ after v r
    → answer ≡ reply v r → list_all (stands v) spans ≡ true → spans ≡ map (closed w x) spans
end_denied v w r answer x spans none is answered all =
    all_stay v w x spans
    (λ t there. ap (λ k. is_held k t) is
    ∙ kept_denied (reply v r) v (change v r.subject r.action) t (ap is_granted (sym answered) ∙ none) there)
    all
