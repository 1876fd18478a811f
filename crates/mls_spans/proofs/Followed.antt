-- What one entry more makes of spans.
use Rattle.std.proofs.Common.{◌≡◌, ℕ, ◌+◌, ◌<◌, Bool, true, false, cond, List, [], ◌∷◌, ◌++◌, length, take, get_or, map, Option, Some, None, refl, sym, ap, ◌∙◌, append-nil}
use Rattle.std.specs.Prelude.{not, ◌&&◌}
use Rattle.std.proofs.lemmas.List.{append_assoc, map-append, take_more}
use Rattle.mls_monitor.specs.Journal.{fold}
use Rattle.mls_requests.specs.declared.action.Action.{Action}
use Rattle.mls_requests.specs.declared.action.Action.TheVariants.{Get, Release, Give, Rescind, Create, Delete, SubjectLevel, ObjectLevel}
use Rattle.mls_requests.specs.declared.entry.Entry.{Entry}
use Rattle.mls_rules.specs.Rules.{after}
use Rattle.mls_state.specs.State.{State}
use Rattle.mls_tables.specs.Once.{by_subject}
use Rattle.mls_tables.specs.Triples.{Triple}
use Rattle.mls_tables.specs.declared.limits.TheConstants.{MAX_SUBJECTS}
use Rattle.mls_spans.specs.Spans.{is_held, span_of, ending_of, ended, span_from, made_by, begun_by, begun, opened, spans_over}
use Rattle.mls_spans.specs.Sweeping.{closed, sought, begins, moved}
use Rattle.mls_spans.specs.declared.span.Ending.{Ending}
use Rattle.mls_spans.specs.declared.span.Span.{Span}

-- an ending that is known, or that of an entry after which the access isn't held
abbrev or_ended : State → Ending → Triple → Option Ending → Option Ending
or_ended w x t (Some known) = Some known
or_ended w x t None = cond (is_held w t) None (Some x)

either_ended : (b : Bool) (w : State) (x : Ending) (t : Triple) (later whole : Option Ending) (first : Ending) → whole ≡ or_ended w x t later
    → cond b whole (Some first) ≡ or_ended w x t (cond b later (Some first))
either_ended true w x t later whole first is = is
either_ended false w x t later whole first is = refl

ended_more : (v : State) (es : List Entry) (e : Entry) (t : Triple) → ended v (es ++ e ∷ []) t ≡ or_ended (after (fold v es) e.request) (ending_of e) t (ended v es t)
ended_more v [] e t = refl
ended_more v (f ∷ es) e t =
    either_ended (is_held (after v f.request) t) (after (fold (after v f.request) es) e.request) (ending_of e) t (ended (after v f.request) es t)
    (ended (after v f.request) (es ++ e ∷ []) t) (ending_of f) (ended_more (after v f.request) es e t)

lost_one : (b : Bool) (x : Ending) (made : Option ℕ) (t : Triple)
    → cond (not b) (span_of t made (Some x)) (span_of t made None)
    ≡ (span_of t made (cond b None (Some x)))
lost_one true x made t = refl
lost_one false x made t = refl

closed_is : (w : State) (x : Ending) (made : Option ℕ) (t : Triple) (known : Option Ending)
    → closed w x (span_of t made known) ≡ (span_of t made (or_ended w x t known))
closed_is w x made t (Some known) = refl
closed_is w x made t None = lost_one (is_held w t) x made t

span_more : (made : Option ℕ) (v : State) (es : List Entry) (e : Entry) (t : Triple)
    → span_from made v (es ++ e ∷ []) t ≡ closed (after (fold v es) e.request) (ending_of e) (span_from made v es t)
span_more made v es e t =
    let same : Option Ending → Span = λ k. span_of t made k in
    ap same (ended_more v es e t) ∙ sym (closed_is (after (fold v es) e.request) (ending_of e) made t (ended v es t))

spans_more : (made : Option ℕ) (v : State) (es : List Entry) (e : Entry) (ts : List Triple)
    → map (span_from made v (es ++ e ∷ [])) ts ≡ map (closed (after (fold v es) e.request) (ending_of e)) (map (span_from made v es) ts)
spans_more made v es e [] = refl
spans_more made v es e (t ∷ ts) = λ i. span_more made v es e t i ∷ spans_more made v es e ts i

begun_more : (v : State) (es : List Entry) (e : Entry)
    → begun v (es ++ e ∷ []) ≡ map (closed (after (fold v es) e.request) (ending_of e)) (begun v es) ++ begun_by (fold v es) e []
begun_more v [] e = append-nil (begun_by v e [])
begun_more v (f ∷ es) e =
    let w = after v f.request in
    let c = closed (after (fold w es) e.request) (ending_of e) in
    let ts = made_by v w f.request.subject f.request.action in
    let last = begun_by (fold w es) e [] in
    (λ i. spans_more (Some f.number) w es e ts i ++ begun_more w es e i)
    ∙ sym (append_assoc (map c (begun_by v f es)) (map c (begun w es)) last)
    ∙ ap (λ k. k ++ last) (sym (map-append c (begun_by v f es) (begun w es)))

over_more : (v : State) (es : List Entry) (e : Entry)
    → spans_over v (es ++ e ∷ []) ≡ map (closed (after (fold v es) e.request) (ending_of e)) (spans_over v es) ++ begun_by (fold v es) e []
over_more v es e =
    let c = closed (after (fold v es) e.request) (ending_of e) in
    let last = begun_by (fold v es) e [] in
    (λ i. spans_more None v es e (by_subject v.accesses MAX_SUBJECTS) i ++ begun_more v es e i)
    ∙ sym (append_assoc (map c (opened v es)) (map c (begun v es)) last)
    ∙ ap (λ k. k ++ last) (sym (map-append c (opened v es) (begun v es)))

one_begun : (k : Bool) (w : State) (n : ℕ) (t : Triple)
    → map (span_from (Some n) w []) (cond k (t ∷ []) []) ≡ cond k ((span_of t (Some n) None) ∷ []) []
one_begun true w n t = refl
one_begun false w n t = refl

got : (h : Bool) (w : State) (n : ℕ) (t : Triple)
    → map (span_from (Some n) w []) (cond (not h && is_held w t) (t ∷ []) []) ≡ begins w n (cond h None (Some t))
got true w n t = refl
got false w n t = one_begun (is_held w t) w n t

begun_is : (v w : State) (n s : ℕ) (a : Action) → map (span_from (Some n) w []) (made_by v w s a) ≡ begins w n (sought v s a)
begun_is v w n s (Get x o) = got (is_held v (s, o, x)) w n (s, o, x)
begun_is v w n s (Release x o) = refl
begun_is v w n s (Give x t o) = refl
begun_is v w n s (Rescind x t o) = refl
begun_is v w n s (Create p l i) = refl
begun_is v w n s (Delete o) = refl
begun_is v w n s (SubjectLevel l) = refl
begun_is v w n s (ObjectLevel o l) = refl

pub fold-push : (v : State) (es : List Entry) (e : Entry) → fold v (es ++ e ∷ []) ≡ after (fold v es) e.request
fold-push v [] e = refl
fold-push v (x ∷ es) e = fold-push (after v x.request) es e

pub more : (es : List Entry) (n : ℕ) (e : Entry) → n < length es → e ≡ get_or es n e → take (n + 1) es ≡ take n es ++ e ∷ []
more es n e within is = take_more es n e within ∙ ap (λ k. take n es ++ k ∷ []) (sym is)

-- the state after the entries so far and the next
pub state_next : (v0 v w : State) (es : List Entry) (n : ℕ) (e : Entry) → n < length es → e ≡ get_or es n e → v ≡ fold v0 (take n es)
    → w ≡ after v e.request → w ≡ fold v0 (take (n + 1) es)
state_next v0 v w es n e within is so_far next =
    next ∙ ap (λ k. after k e.request) so_far ∙ sym (fold-push v0 (take n es) e) ∙ ap (fold v0) (sym (more es n e within is))

-- the spans after entries and the next
pub spans_pushed : (v0 v w : State) (es : List Entry) (e : Entry) (spans new : List Span) → v ≡ fold v0 es → w ≡ after v e.request
    → spans ≡ spans_over v0 es → new ≡ moved w e (sought v e.request.subject e.request.action) spans → new ≡ spans_over v0 (es ++ e ∷ [])
spans_pushed v0 v w es e spans new so_far next listed added =
    let u = fold v0 es in
    let there : w ≡ after u e.request = next ∙ ap (λ k. after k e.request) so_far in
    added ∙ (λ i. moved (there i) e (sought (so_far i) e.request.subject e.request.action) (listed i))
    ∙ ap (λ k. map (closed (after u e.request) (ending_of e)) (spans_over v0 es) ++ k)
    (sym (begun_is u (after u e.request) e.number e.request.subject e.request.action))
    ∙ sym (over_more v0 es e)

-- the spans after the entries so far and the next
pub spans_next : (v0 v w : State) (es : List Entry) (n : ℕ) (e : Entry) (spans new : List Span) → n < length es → e ≡ get_or es n e
    → v ≡ fold v0 (take n es) → w ≡ after v e.request → spans ≡ spans_over v0 (take n es)
    → new ≡ moved w e (sought v e.request.subject e.request.action) spans → new ≡ spans_over v0 (take (n + 1) es)
spans_next v0 v w es n e spans new within is so_far next listed added =
    spans_pushed v0 v w (take n es) e spans new so_far next listed added ∙ ap (spans_over v0) (sym (more es n e within is))

-- with no entry, only the spans that begin with the state
pub spans_none : (v : State) (spans : List Span) → spans ≡ opened v [] → spans ≡ spans_over v []
spans_none v spans is = is ∙ sym (append-nil (opened v []))
