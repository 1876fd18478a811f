-- How many entries are changes, and what lasts while there is none.
use Rattle.std.proofs.Common.{◌≡◌, ℕ, ◌+◌, ◌≤◌, Bool, true, false, List, [], ◌∷◌, ◌++◌, length, refl, sym, ap, ◌∙◌, subst, arith, append-nil, append_assoc, true≢false}
use Rattle.std.proofs.lemmas.Bool.{or_right}
use Rattle.std.specs.FinSet as set
use Rattle.mls_tables.specs.Triples.{Triple, TripleSet, is_triple}
use Rattle.mls_tables.proofs.Laws.{contains-insert-triple}
use Rattle.mls_state.specs.State.{State}
use Rattle.mls_requests.specs.declared.action.Action.{Action}
use Rattle.mls_requests.specs.declared.action.Action.TheVariants.{Get, Release, Give, Rescind, Create, Delete, SubjectLevel, ObjectLevel}
use Rattle.mls_requests.specs.declared.reply.Reply.{Reply}
use Rattle.mls_requests.specs.declared.reply.Reply.TheVariants.{Yes, Created, No, Undefined}
use Rattle.mls_requests.specs.declared.entry.Entry.{Entry}
use Rattle.mls_rules.specs.Rules.{reply, change, after_reply}
use Rattle.mls_monitor.specs.Journal.{fold, IsLegal}
use Rattle.mls_monitor.proofs.Laws.{next_answer}
use Rattle.mls_sessions.specs.Changes.{withdraws, where_granted, is_change, one_if, changes, Keeps}
use Rattle.mls_sessions.specs.Rule.{begun}
use Rattle.mls_sessions.specs.Sessions.{Office, Session, IsOf, Sees, history, number_of, changes_seen}
use Rattle.mls_sessions.specs.Touches.{touch_asked, touch_by, touch_of}
use Rattle.mls_sessions.specs.declared.touch.Touch.{Touch}
use Rattle.mls_sessions.specs.declared.touch.Touch.TheVariants.{Many}
use Rattle.mls_sessions.proofs.Learnt.{later_grew}
use Rattle.mls_sessions.proofs.Touching.{after_entry, tag}

pub changes-append : (xs ys : List Entry) → changes (xs ++ ys) ≡ changes xs + changes ys
changes-append [] ys = omega arith
changes-append (e ∷ xs) ys = let rest = changes-append xs ys in omega arith

one_few : (b : Bool) → one_if b ≤ 1
one_few true = omega arith
one_few false = omega arith

pub changes_few : (es : List Entry) → changes es ≤ length es
changes_few [] = omega arith
changes_few (e ∷ es) = let one = one_few (is_change e) in let rest = changes_few es in omega arith

-- one entry more
pub one_change : (es : List Entry) (e : Entry) → changes es ≡ 0 → is_change e ≡ true → changes (es ++ e ∷ []) ≡ 1
one_change es e none is = let both = changes-append es (e ∷ []) in let one = ap one_if is in omega arith

pub no_change : (es : List Entry) (e : Entry) → changes es ≡ 0 → is_change e ≡ false → changes (es ++ e ∷ []) ≡ 0
no_change es e none is = let both = changes-append es (e ∷ []) in let one = ap one_if is in omega arith

-- what may change many triples is a change
many_withdraws : (s : ℕ) (a : Action) → touch_asked s a ≡ Many → withdraws a ≡ true
many_withdraws s (Get x o) is = (let z = ap tag is in absurd (omega arith))
many_withdraws s (Release x o) is = refl
many_withdraws s (Give x t o) is = (let z = ap tag is in absurd (omega arith))
many_withdraws s (Rescind x t o) is = refl
many_withdraws s (Create p l i) is = (let z = ap tag is in absurd (omega arith))
many_withdraws s (Delete o) is = refl
many_withdraws s (SubjectLevel l) is = refl
many_withdraws s (ObjectLevel o l) is = refl

many_granted : (a : Reply) (touch : Touch) (b : Bool) → touch_by a touch ≡ Many → (touch ≡ Many → b ≡ true) → where_granted a b ≡ true
many_granted Yes touch b is so = so is
many_granted (Created o) touch b is so = so is
many_granted (No reason) touch b is so = (let z = ap tag is in absurd (omega arith))
many_granted Undefined touch b is so = (let z = ap tag is in absurd (omega arith))

pub many_change : (e : Entry) → touch_of e ≡ Many → is_change e ≡ true
many_change e is = many_granted e.reply (touch_asked e.request.subject e.request.action) (withdraws e.request.action) is (λ z. many_withdraws e.request.subject e.request.action z)

-- each state keeps what it has
keeps_all : (v : State) → Keeps v v
keeps_all v = record { accesses = λ t h. h; matrix = λ t h. h; current = refl }

keeps_on : (u v w : State) → Keeps u v → Keeps v w → Keeps u w
keeps_on u v w a b = record { accesses = λ t h. b.accesses t (a.accesses t h); matrix = λ t h. b.matrix t (a.matrix t h); current = b.current ∙ a.current }

inserted_keeps : (b : TripleSet) (u t : Triple) → set.contains b t ≡ true → set.contains (set.insert b u) t ≡ true
inserted_keeps b u t h = contains-insert-triple b u t ∙ or_right (is_triple t u) (set.contains b t) h

-- what takes nothing away
change_keeps : (v : State) (s : ℕ) (a : Action) → withdraws a ≡ false → Keeps v (change v s a)
change_keeps v s (Get x o) is = record { accesses = λ t h. inserted_keeps v.accesses (s, o, x) t h; matrix = λ t h. h; current = refl }
change_keeps v s (Release x o) is = absurd (true≢false is)
change_keeps v s (Give x u o) is = record { accesses = λ t h. h; matrix = λ t h. inserted_keeps v.matrix (u, o, x) t h; current = refl }
change_keeps v s (Rescind x u o) is = absurd (true≢false is)
change_keeps v s (Create p l i) is = record { accesses = λ t h. h; matrix = λ t h. h; current = refl }
change_keeps v s (Delete o) is = absurd (true≢false is)
change_keeps v s (SubjectLevel l) is = absurd (true≢false is)
change_keeps v s (ObjectLevel o l) is = absurd (true≢false is)

reply_keeps : (a : Reply) (v w : State) (b : Bool) → where_granted a b ≡ false → (b ≡ false → Keeps v w) → Keeps v (after_reply a v w)
reply_keeps Yes v w b is so = so is
reply_keeps (Created o) v w b is so = so is
reply_keeps (No reason) v w b is so = keeps_all v
reply_keeps Undefined v w b is so = keeps_all v

entry_keeps : (start : State) (old : List Entry) (e : Entry) → e.reply ≡ reply (fold start old) e.request → is_change e ≡ false → Keeps (fold start old) (fold start (old ++ e ∷ []))
entry_keeps start old e said is = let v = fold start old in let r = e.request in
    subst (λ (w : State). Keeps v w) (sym (after_entry start old e said))
    (reply_keeps e.reply v (change v r.subject r.action) (withdraws r.action) is (λ none. change_keeps v r.subject r.action none))

one_none : (b : Bool) → one_if b ≡ 0 → b ≡ false
one_none true e = absurd (omega arith)
one_none false e = refl

-- where no entry is a change
run_keeps : (start : State) (front rest : List Entry) → IsLegal start (front ++ rest) → changes rest ≡ 0 → Keeps (fold start front) (fold start (front ++ rest))
run_keeps start front [] legal none = subst (λ es. Keeps (fold start front) (fold start es)) (sym (append-nil front)) (keeps_all (fold start front))
run_keeps start front (e ∷ rest) legal none = let said = (next_answer start front e rest legal).1 in let here : one_if (is_change e) ≡ 0 = omega arith in let later : changes rest ≡ 0 = omega arith in
    let whole : (front ++ e ∷ []) ++ rest ≡ front ++ e ∷ rest = append_assoc front (e ∷ []) rest in
    keeps_on (fold start front) (fold start (front ++ e ∷ [])) (fold start (front ++ e ∷ rest)) (entry_keeps start front e said (one_none (is_change e) here))
    (subst (λ es. Keeps (fold start (front ++ e ∷ [])) (fold start es)) whole
    (run_keeps start (front ++ e ∷ []) rest (subst (λ es. IsLegal start es) (sym whole) legal) later))

-- of what a session saw more
module _ (o : Office) (s t : Session) (s_is : IsOf o s) (t_is : IsOf o t) (same : number_of t.view ≡ number_of s.view) (sees : Sees o.charter s.view t.view) where
  abbrev since : List Entry
  since = sees.begins.0

  more : changes_seen t.view ≡ changes_seen s.view + changes since
  more = ap changes (later_grew o s t s_is t_is same since (sym sees.begins.1)) ∙ changes-append _ since

  pub more_changes : changes_seen s.view ≤ changes_seen t.view
  more_changes = let z = more in omega arith

  pub kept_while_same : changes_seen t.view ≡ changes_seen s.view → Keeps (fold (begun o.charter) (history s.view)) (fold (begun o.charter) (history t.view))
  kept_while_same is = let z = more in let none : changes since ≡ 0 = omega arith in
      subst (λ es. Keeps (fold (begun o.charter) (history s.view)) (fold (begun o.charter) es)) sees.begins.1
      (run_keeps (begun o.charter) (history s.view) since (subst (λ es. IsLegal (begun o.charter) es) (sym sees.begins.1) sees.stands.legal) none)
