-- What is kept of the uses of permissions, with one entry more.
use Rattle.std.proofs.Common.{◌≡◌, ℕ, ◌+◌, ◌<◌, Bool, true, false, cond, List, [], ◌∷◌, ◌++◌, length, take, get_or, Option, Some, None, refl, sym, ap, subst, ◌∙◌}
use Rattle.std.specs.Prelude.{◌&&◌, ◌||◌, is_some}
use Rattle.std.proofs.lemmas.Bool.{and_parts, or_right}
use Rattle.mls_monitor.specs.Journal.{fold}
use Rattle.mls_requests.specs.declared.action.Action.{Action}
use Rattle.mls_requests.specs.declared.action.Action.TheVariants.{Get, Release, Give, Rescind, Create, Delete, SubjectLevel, ObjectLevel}
use Rattle.mls_requests.specs.declared.entry.Entry.{Entry}
use Rattle.mls_rules.specs.Rules.{reply, after}
use Rattle.mls_state.specs.State.{State}
use Rattle.mls_tables.specs.Triples.{Triple, is_triple}
use Rattle.mls_spans.specs.Sweeping.{is_granted}
use Rattle.mls_spans.specs.Uses.{is_permitted, is_permission, is_get, is_use}
use Rattle.mls_spans.specs.Kept.{kept, told_of, with_use, asked_in, given_by, is_asked, is_given, with_asked, followed, IsTally}
use Rattle.mls_spans.specs.declared.tally.Tally.{Tally}
use Rattle.mls_spans.specs.declared.uses.Uses.{Uses}
use Rattle.mls_spans.proofs.Followed.{more}
use Rattle.mls_spans.proofs.Permitting.{or_false, or_true, same_test, given_there, grows, last_state, permission_push}
use Rattle.mls_spans.proofs.UsesMore.{uses_more}

chosen : (b : Bool) (a t : Triple) → is_asked (cond b (Some a) None) t ≡ (b && is_triple t a)
chosen true a t = refl
chosen false a t = refl

-- what is asked for is the use of a permission
asked_is : (v : State) (s : ℕ) (a : Action) (t : Triple) → is_asked (asked_in v s a) t ≡ (is_get t s a && is_permitted v t)
asked_is v s (Get x o) t = chosen (is_permitted v (s, o, x)) (s, o, x) t ∙ same_test (is_permitted v) t (s, o, x)
asked_is v s (Release x o) t = refl
asked_is v s (Give x r o) t = refl
asked_is v s (Rescind x r o) t = refl
asked_is v s (Create p l i) t = refl
asked_is v s (Delete o) t = refl
asked_is v s (SubjectLevel l) t = refl
asked_is v s (ObjectLevel o l) t = refl

told_given : (b : Bool) (k : Option Uses) → told_of (cond b (Some (told_of k)) k) ≡ told_of k
told_given true k = refl
told_given false k = refl

told_asked : (b : Bool) (x : Uses) (k : Option Uses) → told_of (cond b (Some x) k) ≡ cond b x (told_of k)
told_asked true x k = refl
told_asked false x k = refl

some_put : (b : Bool) (x : Uses) (k : Option Uses) → is_some (cond b (Some x) k) ≡ (is_some k || b)
some_put true x k = sym (or_true (is_some k))
some_put false x k = sym (or_false (is_some k))

module _ (v w : State) (e : Entry) (t : Triple) (k : Option Uses) where
  abbrev asked : Option Triple
  asked = asked_in v e.request.subject e.request.action

  abbrev granted : Bool
  granted = is_granted (reply v e.request)

  abbrev given : Option Triple
  given = given_by e.request.action

  told_followed : told_of (followed v w e t k) ≡ cond (is_use t (v, e)) (with_use (told_of k) granted e.number) (told_of k)
  told_followed =
      told_given (is_given w given t) (with_asked asked granted e.number t k)
      ∙ told_asked (is_asked asked t) (with_use (told_of k) granted e.number) k
      ∙ ap (λ b. cond b (with_use (told_of k) granted e.number) (told_of k)) (asked_is v e.request.subject e.request.action t)

  some_followed : is_some (followed v w e t k) ≡ ((is_some k || is_use t (v, e)) || is_given w given t)
  some_followed =
      some_put (is_given w given t) (told_of (with_asked asked granted e.number t k)) (with_asked asked granted e.number t k)
      ∙ ap (λ b. b || is_given w given t)
      (some_put (is_asked asked t) (with_use (told_of k) granted e.number) k
      ∙ ap (λ b. is_some k || b) (asked_is v e.request.subject e.request.action t))

-- a: permitted first, k: kept, u: used, g: given, w: permitted now, q: a permission before, b: permitted before
there_more : (a k u g w q b : Bool) → q ≡ (a || k) → (u ≡ true → b ≡ true) → (b ≡ true → q ≡ true) → (g ≡ true → w ≡ true)
    → (w ≡ true → (b || g) ≡ true) → (a || ((k || u) || g)) ≡ (q || w)
there_more true k u g w q b is ub bq gw wb = sym (ap (λ c. c || w) is)
there_more false true u g w q b is ub bq gw wb = sym (ap (λ c. c || w) is)
there_more false false true g w q b is ub bq gw wb = absurd (let no : false ≡ true = sym is ∙ bq (ub refl) in cc)
there_more false false false true w q b is ub bq gw wb = sym (or_right q w (gw refl))
there_more false false false false true q b is ub bq gw wb =
    absurd (let no : false ≡ true = sym is ∙ bq (sym (or_false b) ∙ wb refl) in cc)
there_more false false false false false q b is ub bq gw wb = sym (ap (λ c. c || false) is)

tally_more : (v : State) (es : List Entry) (e : Entry) (m n : Tally) → IsTally v es m
    → ((t : Triple) → t.1 < 65536 → kept n t ≡ followed (fold v es) (after (fold v es) e.request) e t (kept m t))
    → IsTally v (es ++ e ∷ []) n
tally_more v es e m n so_far each =
    let u = fold v es in
    let w = after u e.request in
    let granted = is_granted (reply u e.request) in
    let given = given_by e.request.action in
    record {
      uses = λ t small.
          ap told_of (each t small) ∙ told_followed u w e t (kept m t)
          ∙ ap (λ k. cond (is_use t (u, e)) (with_use k granted e.number) k) (so_far.uses t small)
          ∙ sym (uses_more v es e t);
      there = λ t small.
          ap (λ k. is_permitted v t || is_some k) (each t small) ∙ ap (λ b. is_permitted v t || b) (some_followed u w e t (kept m t))
          ∙ there_more (is_permitted v t) (is_some (kept m t)) (is_use t (u, e)) (is_given w given t) (is_permitted w t) (is_permission v es t) (is_permitted u t)
          (sym (so_far.there t small))
          (λ is. (and_parts (is_get t e.request.subject e.request.action) (is_permitted u t) is).1)
          (last_state v es t) (given_there w given t) (grows u e.request t)
          ∙ sym (permission_push v es e t);
    }

-- the tally of entries and the next
pub tally_pushed : (v0 v w : State) (es : List Entry) (e : Entry) (m new : Tally) → v ≡ fold v0 es → w ≡ after v e.request → IsTally v0 es m
    → ((t : Triple) → t.1 < 65536 → kept new t ≡ followed v w e t (kept m t)) → IsTally v0 (es ++ e ∷ []) new
tally_pushed v0 v w es e m new at next so_far each =
    let there : w ≡ after (fold v0 es) e.request = next ∙ ap (λ k. after k e.request) at in
    tally_more v0 es e m new so_far (λ t small. each t small ∙ (λ i. followed (at i) (there i) e t (kept m t)))

-- the tally of the entries so far and the next
pub tally_next : (v0 v w : State) (es : List Entry) (n : ℕ) (e : Entry) (m new : Tally) → n < length es → e ≡ get_or es n e
    → v ≡ fold v0 (take n es) → w ≡ after v e.request → IsTally v0 (take n es) m
    → ((t : Triple) → t.1 < 65536 → kept new t ≡ followed v w e t (kept m t)) → IsTally v0 (take (n + 1) es) new
tally_next v0 v w es n e m new within is at next so_far each =
    subst (λ l. IsTally v0 l new) (sym (more es n e within is)) (tally_pushed v0 v w (take n es) e m new at next so_far each)

-- with no entry, nothing is kept
pub tally_none : (v : State) (m : Tally) → ((t : Triple) → kept m t ≡ None) → IsTally v [] m
tally_none v m none = record {
  uses = λ t small. ap told_of (none t);
  there = λ t small. ap (λ k. is_permitted v t || is_some k) (none t);
}
