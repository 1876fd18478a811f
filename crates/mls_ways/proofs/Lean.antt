-- Requests without one of them, and what requests bring about.
use Rattle.std.proofs.Common.{◌≡◌, ℕ, zero, suc, ◌+◌, ◌<◌, Bool, true, false, List, [], ◌∷◌, ◌++◌, length, take, drop, Option, Some, refl, sym, ap, subst, ◌∙◌, arith}
use Rattle.std.specs.Prelude.{MatchOption}
use Rattle.mls_tables.specs.Triples.{Triple}
use Rattle.mls_requests.specs.declared.request.Request.{Request}
use Rattle.mls_requests.specs.declared.reply.Reply.{Reply}
use Rattle.mls_requests.specs.declared.reply.Reply.TheVariants.{Yes}
use Rattle.mls_state.specs.State.{State}
use Rattle.mls_rules.specs.Rules.{reply, after}
use Rattle.mls_laws.specs.Journals.{run}
use Rattle.mls_futures.specs.Scripts.{AreGranted, AreOfActors}
use Rattle.mls_ways.specs.Lean.{goes_on, brings, without, IsLean}
use Rattle.std.specs.FinSet as set

-- the requests before a place, and those behind it
pub without-parts : (n : ℕ) (rs : List Request) → n < length rs → take n rs ++ drop 1 (drop n rs) ≡ without n rs
without-parts n [] below = absurd (omega (arith, below))
without-parts zero (r ∷ rs) below = refl
without-parts (suc n) (r ∷ rs) below = ap (λ t. r ∷ t) (without-parts n rs (omega (arith, below)))

pub length-without : (n : ℕ) (rs : List Request) → n < length rs → length (without n rs) < length rs
length-without n [] below = absurd (omega (arith, below))
length-without zero (r ∷ rs) below = omega arith
length-without (suc n) (r ∷ rs) below = let rest : length (without n rs) < length rs = length-without n rs (omega (arith, below)) in omega (arith, rest)

pub actors-without : (acts : ℕ → Bool) (n : ℕ) (rs : List Request) → AreOfActors acts rs → AreOfActors acts (without n rs)
actors-without acts n [] of = tt
actors-without acts zero (r ∷ rs) of = of.1
actors-without acts (suc n) (r ∷ rs) of = (of.0, actors-without acts n rs of.1)

-- requests that are granted bring about what is held in the end
pub brings-granted : (v : State) (t : Triple) (rs : List Request) → AreGranted v rs → set.contains (run v rs).accesses t ≡ true → brings v t rs ≡ true
brings-granted v t [] granted held = held
brings-granted v t (r ∷ rs) granted held = ap (λ a. goes_on a (brings (after v r) t rs)) granted.0 ∙ brings-granted (after v r) t rs granted.1 held

-- requests without one that is needless
pub record IsLess (v : State) (t : Triple) (acts : ℕ → Bool) (rs zs : List Request) : Type 0 where
  pub shorter : length zs < length rs
  pub does : brings v t zs ≡ true
  pub of_actors : AreOfActors acts rs → AreOfActors acts zs

pub left_out : (v : State) (t : Triple) (acts : ℕ → Bool) (rs xs ys zs : List Request) (e : Option ℕ) (n : ℕ) → e ≡ Some n
    → MatchOption e (IsLean v t xs) (λ k. (k < length xs) × (brings v t (without k xs) ≡ true)) → xs ≡ rs → ys ≡ rs → zs ≡ without n ys → IsLess v t acts rs zs
left_out v t acts rs xs ys zs e n is found same_x same_y rest =
    let has : (n < length rs) × (brings v t (without n rs) ≡ true) =
    subst (λ us. (n < length us) × (brings v t (without n us) ≡ true)) same_x
    (subst (λ f. MatchOption f (IsLean v t xs) (λ k. (k < length xs) × (brings v t (without k xs) ≡ true))) is found) in
    let left : zs ≡ without n rs = rest ∙ ap (without n) same_y in
    record {
      shorter = subst (λ us. length us < length rs) (sym left) (length-without n rs has.0);
      does = ap (brings v t) left ∙ has.1;
      of_actors = λ of. subst (AreOfActors acts) (sym left) (actors-without acts n rs of);
    }
