-- Tables of who could write objects, and of for whom an object could be made.
use Rattle.std.proofs.Common.{◌≡◌, ℕ, ◌+◌, ◌<◌, ◌≤◌, Bool, true, ◌⊎◌, inl, inr, nat_lt, List, [], ◌∷◌, ◌++◌, length, Option, Some, None, refl, sym, ap, subst, ◌∙◌, arith}
use Rattle.std.specs.Prelude.{slice_get, MatchOption}
use Rattle.std.proofs.lemmas.Bool.{cases_lt}
use Rattle.std.specs.FinMap as map
use Rattle.std.proofs.lemmas.Bool.Decides.{nat_tests}
use Rattle.std.proofs.lemmas.List.{length_push}
use Rattle.mls_tables.specs.declared.limits.TheConstants.{MAX_OBJECTS}
use Rattle.mls_tables.specs.declared.mode.Mode.TheVariants.{Write}
use Rattle.mls_state.specs.State.{State, is_subject, is_active}
use Rattle.mls_state.specs.Properties.{HasTree, HasWholeTables}
use Rattle.mls_futures.specs.Closure.{CouldGet}
use Rattle.mls_paths.specs.Hands.{AreTaken, AreTakers, AreWriters, CouldMake, CouldTake, IsFit, IsGiver, TakesBelow, TakesBy, WritesBy, entry_of, has_room}
use Rattle.mls_paths.proofs.Hands.{above_there, past, taken_active}
use Rattle.mls_paths.proofs.Lists.{at_pushed}

module _ (v : State) (acts : ℕ → Bool) where
  -- one more
  pub writers_more : (writers : List (Option ℕ)) (n : ℕ) (e : Option ℕ) → AreWriters v acts writers n → WritesBy v acts n e → AreWriters v acts (writers ++ e ∷ []) (n + 1)
  writers_more writers n e known by = record {
    each = λ o f at. from o f (at_pushed writers e o f at);
    many = length_push writers e ∙ ap (λ k. k + 1) known.many;
  } where
    from : (o : ℕ) (f : Option ℕ) → (slice_get writers o ≡ Some f) ⊎ ((o ≡ length writers) × (e ≡ f)) → WritesBy v acts o f
    from o f (inl was) = known.each o f was
    from o f (inr (is, same)) = subst (λ k. WritesBy v acts k f) (sym (is ∙ known.many)) (subst (WritesBy v acts n) same by)

  pub no_writers : AreWriters v acts [] 0
  no_writers = record { each = λ o e at. cc; many = refl }

  pub takers_more : (takers : List (Option (ℕ × ℕ))) (n : ℕ) (e : Option (ℕ × ℕ)) → AreTaken v acts takers n → TakesBy v acts n e → AreTaken v acts (takers ++ e ∷ []) (n + 1)
  takers_more takers n e known by = record {
    each = λ o f at. from o f (at_pushed takers e o f at);
    many = length_push takers e ∙ ap (λ k. k + 1) known.many;
  } where
    from : (o : ℕ) (f : Option (ℕ × ℕ)) → (slice_get takers o ≡ Some f) ⊎ ((o ≡ length takers) × (e ≡ f)) → TakesBy v acts o f
    from o f (inl was) = known.each o f was
    from o f (inr (is, same)) = subst (λ k. TakesBy v acts k f) (sym (is ∙ known.many)) (subst (TakesBy v acts n) same by)

  pub no_takers : AreTaken v acts [] 0
  no_takers = record { each = λ o e at. cc; many = refl }

  pub takers_all : (takers : List (Option (ℕ × ℕ))) (n : ℕ) → ((s : ℕ) → is_subject v s ≡ nat_lt s n) → AreTaken v acts takers n → AreTakers v acts takers
  takers_all takers n known are = record {
    each = are.each;
    many = λ t is.
        let below : nat_lt t n ≡ true = sym (known t) ∙ is in
        let low : t < n = grind (arith, nat_tests, below) in
        let many = are.many in
        omega (arith, low, many);
  }

  -- who could make an object below one
  pub below_not : (t parent : ℕ) → (is_active v parent ≡ true → ⊥) → TakesBelow v acts t parent None
  below_not t parent none maker take = none (taken_active v acts t maker parent take)

  pub below_unwritten : (writers : List (Option ℕ)) (t parent : ℕ) → AreWriters v acts writers MAX_OBJECTS → slice_get writers parent ≡ Some None → TakesBelow v acts t parent None
  below_unwritten writers t parent are at maker take = are.each parent None at maker take.makes

  pub below_unfit : (t parent : ℕ) → (IsFit v acts t parent → ⊥) → TakesBelow v acts t parent None
  below_unfit t parent none maker take = none (record { takes = take.takes; fits = take.fits; cleared = take.cleared })

  pub below_made : (writers : List (Option ℕ)) (t parent maker : ℕ) → AreWriters v acts writers MAX_OBJECTS → slice_get writers parent ≡ Some (Some maker) → IsFit v acts t parent
      → TakesBelow v acts t parent (Some maker)
  below_made writers t parent maker are at fit = record { takes = fit.takes; makes = are.each parent (Some maker) at; fits = fit.fits; cleared = fit.cleared }

  pub below_past : (writers : List (Option ℕ)) (t parent : ℕ) → HasTree v → AreWriters v acts writers MAX_OBJECTS → is_active v parent ≡ true → slice_get writers parent ≡ None
      → TakesBelow v acts t parent None
  below_past writers t parent h are active none maker take =
      let below = h.objects.below parent active in
      let many = are.many in
      past writers parent (omega (arith, below, many)) none

  -- by what the table has
  pub below_none : (writers : List (Option ℕ)) (t parent : ℕ) → HasTree v → AreWriters v acts writers MAX_OBJECTS → is_active v parent ≡ true
      → None ≡ entry_of (slice_get writers parent) → TakesBelow v acts t parent None
  below_none writers t parent h are active is = from (slice_get writers parent) refl where
    from : (e : Option (Option ℕ)) → slice_get writers parent ≡ e → TakesBelow v acts t parent None
    from None at = below_past writers t parent h are active at
    from (Some None) at = below_unwritten writers t parent are at
    from (Some (Some maker)) at = let no : None ≡ Some maker = is ∙ ap entry_of at in cc

  some_at : {X : Type 0} (e : Option (Option X)) (x : X) → Some x ≡ entry_of e → e ≡ Some (Some x)
  some_at None x is = cc
  some_at (Some f) x is = ap Some (sym is)

  pub below_some : (writers : List (Option ℕ)) (t parent maker : ℕ) → AreWriters v acts writers MAX_OBJECTS → Some maker ≡ entry_of (slice_get writers parent) → IsFit v acts t parent
      → TakesBelow v acts t parent (Some maker)
  below_some writers t parent maker are is fit = below_made writers t parent maker are (some_at (slice_get writers parent) maker is) fit

  pub below_by : (writers : List (Option ℕ)) (t parent : ℕ) (entry : Option ℕ) → HasTree v → AreWriters v acts writers MAX_OBJECTS → is_active v parent ≡ true
      → entry ≡ entry_of (slice_get writers parent) → IsFit v acts t parent → TakesBelow v acts t parent entry
  below_by writers t parent None h are active is fit = below_none writers t parent h are active is
  below_by writers t parent (Some maker) h are active is fit = below_some writers t parent maker are is fit

  -- and of who could get content through an object that is made
  pub makes_some : (takers : List (Option (ℕ × ℕ))) (s t : ℕ) (taker : ℕ × ℕ) → AreTakers v acts takers → Some taker ≡ entry_of (slice_get takers t) → IsGiver v acts s t
      → CouldMake v acts (has_room v) s t taker.0 taker.1
  makes_some takers s t taker are is giver = record {
    free = giver.room;
    hands = giver.hands;
    lower = giver.lower;
    takes = are.each t (Some taker) (some_at (slice_get takers t) taker is);
  }

  pub makes_none : (takers : List (Option (ℕ × ℕ))) (s t : ℕ) → AreTakers v acts takers → is_subject v t ≡ true → None ≡ entry_of (slice_get takers t) → (maker parent : ℕ)
      → CouldMake v acts (has_room v) s t maker parent → ⊥
  makes_none takers s t are known is maker parent make = from (slice_get takers t) refl where
    from : (e : Option (Option (ℕ × ℕ))) → slice_get takers t ≡ e → ⊥
    from None at = past takers t (are.many t known) at
    from (Some None) at = are.each t None at maker parent make.takes
    from (Some (Some taker)) at = let no : None ≡ Some taker = is ∙ ap entry_of at in cc

  pub gives_not : (s t : ℕ) → (IsGiver v acts s t → ⊥) → (maker parent : ℕ) → CouldMake v acts (has_room v) s t maker parent → ⊥
  gives_not s t none maker parent make = none (record { room = make.free; hands = make.hands; lower = make.lower })

  pub giver_known : HasWholeTables v → (s t : ℕ) → IsGiver v acts s t → is_subject v s ≡ true
  giver_known whole s t giver = sym (whole.subject_integrity s) ∙ above_there (map.get v.subject_integrity s) (map.get v.subject_integrity t) giver.lower

  -- whoever makes an object does so below an active one
  pub taken_none : (t : ℕ) → HasTree v → ((maker parent : ℕ) → parent < MAX_OBJECTS → CouldTake v acts t maker parent → ⊥) → TakesBy v acts t None
  taken_none t h none maker parent take = none maker parent (h.objects.below parent (taken_active v acts t maker parent take)) take

  pub none_more : (t n : ℕ) → ((maker parent : ℕ) → parent < n → CouldTake v acts t maker parent → ⊥) → TakesBelow v acts t n None
      → (maker parent : ℕ) → parent < n + 1 → CouldTake v acts t maker parent → ⊥
  none_more t n none here maker parent low take = from (cases_lt parent n) where
    from : (parent < n) ⊎ (n ≤ parent) → ⊥
    from (inl earlier) = none maker parent earlier take
    from (inr late) = let is : parent ≡ n = omega (arith, low, late) in here maker (subst (CouldTake v acts t maker) is take)
