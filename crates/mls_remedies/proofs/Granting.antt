-- Who is granted an action: no subject that isn't known.
use Rattle.std.proofs.Common.{◌≡◌, ℕ, ◌+◌, ◌<◌, ◌≤◌, inl, inr, Bool, false, nat_lt, is_some, Option, Some, None, refl, sym, ap, ◌∙◌, arith}
use Rattle.std.proofs.lemmas.Bool.{cases_lt, le-ltb}
use Rattle.mls_tables.specs.declared.mode.Mode.TheVariants.{Append, Write}
use Rattle.mls_requests.specs.declared.action.Action.{Action}
use Rattle.mls_requests.specs.declared.action.Action.TheVariants.{Get}
use Rattle.mls_state.specs.State.{State, is_subject}
use Rattle.mls_remedies.specs.Authority.{first_of}
use Rattle.mls_remedies.specs.Others.{has_get}
use Rattle.mls_remedies.specs.Steps.{may}

unknown_may : (v : State) (a : Action) (s : ℕ) → is_subject v s ≡ false → may v a s ≡ false
unknown_may v a s unknown = rw unknown refl

unknown_get : (v : State) (a : Action) (gate : Option ℕ) (s : ℕ) → is_subject v s ≡ false → has_get v a gate s ≡ false
unknown_get v a None s unknown = refl
unknown_get v a (Some p) s unknown = rw (unknown_may v (Get Append p) s unknown, unknown_may v (Get Write p) s unknown) refl

-- with one subject more
pub none_more : (v : State) (a : Action) (from n s : ℕ) → s ≡ n → ((t : ℕ) → from ≤ t → t < n → may v a t ≡ false) → may v a s ≡ false
    → (t : ℕ) → from ≤ t → t < n + 1 → may v a t ≡ false
none_more v a from n s is none here t h before = elim (cases_lt t n) [
  | inl earlier ↦ none t h earlier
  | inr past ↦
      let last : t ≡ n = omega (arith, past, before) in
      ap (may v a) (last ∙ sym is) ∙ here
]

pub get_more : (v : State) (a : Action) (p n s : ℕ) (found : Option Action) → s ≡ n → found ≡ first_of v s a (Get Append p) (Get Write p) → found ≡ None
    → ((t : ℕ) → t < n → has_get v a (Some p) t ≡ false) → (t : ℕ) → t < n + 1 → has_get v a (Some p) t ≡ false
get_more v a p n s found is get none earlier t before = elim (cases_lt t n) [
  | inl sooner ↦ earlier t sooner
  | inr past ↦
      let last : t ≡ n = omega (arith, past, before) in
      ap (has_get v a (Some p)) (last ∙ sym is) ∙ ap is_some (sym get ∙ none)
]

module _ (v : State) (count n : ℕ) (known : (s : ℕ) → is_subject v s ≡ nat_lt s count) (all : count ≤ n) where
  past : (s : ℕ) → n ≤ s → is_subject v s ≡ false
  past s h = known s ∙ le-ltb s count (omega (arith, h, all))

  -- where nobody from a number on is, up to the last
  pub none_may : (a : Action) (from : ℕ) → ((s : ℕ) → from ≤ s → s < n → may v a s ≡ false) → (s : ℕ) → from ≤ s → may v a s ≡ false
  none_may a from none s h = elim (cases_lt s n) [
    | inl before ↦ none s h before
    | inr later ↦ unknown_may v a s (past s later)
  ]

  pub none_get : (a : Action) (gate : Option ℕ) → ((s : ℕ) → s < n → has_get v a gate s ≡ false) → (s : ℕ) → 0 ≤ s → has_get v a gate s ≡ false
  none_get a gate none s h = elim (cases_lt s n) [
    | inl before ↦ none s before
    | inr later ↦ unknown_get v a gate s (past s later)
  ]
