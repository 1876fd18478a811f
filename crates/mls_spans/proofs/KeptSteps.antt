-- What is kept once an access is asked for, and once one is given.
use Rattle.std.proofs.Common.{◌≡◌, ℕ, ◌<◌, Bool, true, false, cond, Option, Some, sym, ap, ◌∙◌}
use Rattle.std.specs.Prelude.{◌&&◌}
use Rattle.mls_requests.specs.declared.entry.Entry.{Entry}
use Rattle.mls_rules.specs.Rules.{reply}
use Rattle.mls_state.specs.State.{State}
use Rattle.mls_tables.specs.Triples.{Triple, is_triple}
use Rattle.mls_spans.specs.Sweeping.{is_granted}
use Rattle.mls_spans.specs.Uses.{is_permitted}
use Rattle.mls_spans.specs.Kept.{kept, told_of, with_use, with_asked, with_given, asked_in, given_by, followed}
use Rattle.mls_spans.specs.declared.tally.Tally.{Tally}
use Rattle.mls_spans.specs.declared.uses.Uses.{Uses}
use Rattle.mls_spans.proofs.AccessKeys.{put_same}

-- these uses were put at an access, and nothing else was changed
abbrev pub Puts : Tally → Tally → Triple → Uses → Type 0
Puts old new a u = (t : Triple) → t.1 < 65536 → kept new t ≡ cond (is_triple t a) (Some u) (kept old t)

pub asked_kept : (old new : Tally) (asked : Option Triple) (a : Triple) (granted : Bool) (n : ℕ) (u : Uses) → asked ≡ Some a
    → u ≡ with_use (told_of (kept old a)) granted n → Puts old new a u
    → (t : Triple) → t.1 < 65536 → kept new t ≡ with_asked asked granted n t (kept old t)
asked_kept old new asked a granted n u is made puts t small =
    puts t small ∙ ap (λ x. cond (is_triple t a) (Some x) (kept old t)) made
    ∙ put_same old t a (λ k. Some (with_use (told_of k) granted n))
    ∙ ap (λ o. with_asked o granted n t (kept old t)) (sym is)

pub given_kept : (w : State) (old new : Tally) (given : Option Triple) (a : Triple) (u : Uses) → given ≡ Some a → is_permitted w a ≡ true
    → u ≡ told_of (kept old a) → Puts old new a u
    → (t : Triple) → t.1 < 65536 → kept new t ≡ with_given w given t (kept old t)
given_kept w old new given a u is permitted made puts t small =
    puts t small ∙ ap (λ x. cond (is_triple t a) (Some x) (kept old t)) made
    ∙ put_same old t a (λ k. Some (told_of k))
    ∙ ap (λ b. cond (b && is_triple t a) (Some (told_of (kept old t))) (kept old t)) (sym permitted)
    ∙ ap (λ o. with_given w o t (kept old t)) (sym is)

pub given_none : (w : State) (old : Tally) (given : Option Triple) (a : Triple) → given ≡ Some a → is_permitted w a ≡ false
    → (t : Triple) → t.1 < 65536 → kept old t ≡ with_given w given t (kept old t)
given_none w old given a is none t small =
    ap (λ b. cond (b && is_triple t a) (Some (told_of (kept old t))) (kept old t)) (sym none)
    ∙ ap (λ o. with_given w o t (kept old t)) (sym is)

-- both, one after the other
pub both_kept : (v w : State) (e : Entry) (old mid new : Tally) (asked given : Option Triple) (granted : Bool)
    → asked ≡ asked_in v e.request.subject e.request.action → given ≡ given_by e.request.action → granted ≡ is_granted (reply v e.request)
    → ((t : Triple) → t.1 < 65536 → kept mid t ≡ with_asked asked granted e.number t (kept old t))
    → ((t : Triple) → t.1 < 65536 → kept new t ≡ with_given w given t (kept mid t))
    → (t : Triple) → t.1 < 65536 → kept new t ≡ followed v w e t (kept old t)
both_kept v w e old mid new asked given granted asks gives grants first second t small =
    second t small ∙ ap (with_given w given t) (first t small)
    ∙ (λ i. with_given w (gives i) t (with_asked (asks i) (grants i) e.number t (kept old t)))
