-- What tables have of subjects and objects, where these are there and where they aren't.
use Rattle.std.proofs.Common.{◌≡◌, ℕ, ◌<◌, ◌≤◌, Bool, true, false, ◌⊎◌, inl, inr, List, length, get_or, Some, None, refl, sym, ap, ◌∙◌, arith}
use Rattle.std.proofs.lemmas.Bool.Decides.{nat_tests}
use Rattle.std.proofs.lemmas.Option.{slice_get_cases}
use Rattle.std.specs.Prelude.{nat_lt, slice_get}
use Rattle.std.specs.FinSet as set
use Rattle.mls_facts.specs.Numbered.{holds_of}
use Rattle.mls_state.specs.State.{State, is_subject, is_active}
use Rattle.mls_state.specs.Properties.{HasTree}
use Rattle.mls_state.specs.Tables.{triples_of}
use Rattle.mls_state.specs.declared.table.Table.{Table}
use Rattle.mls_state.proofs.Laws.{unknown_subject, inactive_object}
use Rattle.mls_tables.specs.Mode.{ModeSet}
use Rattle.mls_tables.specs.declared.mode.Mode.{Mode}
use Rattle.mls_tables.specs.declared.mode.Mode.TheVariants.{Execute, Read, Append, Write}
use Rattle.mls_snapshots.specs.Renumbering.{IsCarriedOver}

-- sets that have each of the four modes alike have all modes alike
pub four_modes : (a b : ModeSet) → set.contains a Execute ≡ set.contains b Execute → set.contains a Read ≡ set.contains b Read
    → set.contains a Append ≡ set.contains b Append → set.contains a Write ≡ set.contains b Write → (x : Mode) → set.contains a x ≡ set.contains b x
four_modes a b e r p w Execute = e
four_modes a b e r p w Read = r
four_modes a b e r p w Append = p
four_modes a b e r p w Write = w

-- a table that has the same for each known subject at each place is carried over
pub carried_over : (table : Table) (v w : State) (order : List ℕ) (count : ℕ) → HasTree v → HasTree w
    → ((k : ℕ) → is_active w k ≡ nat_lt k (length order)) → ((s : ℕ) → is_subject v s ≡ nat_lt s count) → ((s : ℕ) → is_subject w s ≡ nat_lt s count)
    → ((s : ℕ) → s < count → (k o : ℕ) (x : Mode) → slice_get order k ≡ Some o
    → set.contains (triples_of table w) (s, k, x) ≡ set.contains (triples_of table v) (s, o, x))
    → IsCarriedOver (triples_of table v) (triples_of table w) order
carried_over table v w order count tree other active first second same s k x = by_place (slice_get_cases {X = ℕ} order k).1 where
  f : ℕ → Bool
  f o = set.contains (triples_of table v) (s, o, x)

  by_subject : (o : ℕ) → slice_get order k ≡ Some o → (b : Bool) → nat_lt s count ≡ b → set.contains (triples_of table w) (s, k, x) ≡ f o
  by_subject o there true is = same s (grind (arith, nat_tests, is)) k o x there
  by_subject o there false is = unknown_subject table w s k x other (second s ∙ is) ∙ sym (unknown_subject table v s o x tree (first s ∙ is))

  by_place : ((o : ℕ) × (k < length order) × (slice_get order k ≡ Some o) × (get_or order k o ≡ o)) ⊎ ((length order ≤ k) × (slice_get order k ≡ None))
      → set.contains (triples_of table w) (s, k, x) ≡ holds_of f (slice_get order k)
  by_place (inl there) = by_subject there.0 there.2 (nat_lt s count) refl ∙ sym (ap (holds_of f) there.2)
  by_place (inr past) =
      let many : length order ≤ k = past.0 in
      let above : nat_lt k (length order) ≡ false = grind (arith, nat_tests) in
      inactive_object table w s k x other (active k ∙ above) ∙ sym (ap (holds_of f) past.1)
