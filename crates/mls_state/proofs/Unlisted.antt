-- What the tables of a state have of subjects that aren't known and objects that aren't active: nothing.
use Rattle.std.proofs.Common.{◌≡◌, ℕ, Bool, true, false, refl, sym, ap, ◌∙◌}
use Rattle.std.specs.Prelude.{◌&&◌}
use Rattle.std.specs.FinSet as set
use Rattle.mls_tables.specs.Mode.{ModeSet, mode_cmp}
use Rattle.mls_tables.specs.declared.mode.Mode.{Mode}
use Rattle.mls_state.specs.State.{State, is_subject, is_active}
use Rattle.mls_state.specs.Properties.{Each, HasTree, is_known}
use Rattle.mls_state.specs.Tables.{triples_of}
use Rattle.mls_state.specs.declared.table.Table.{Table}
use Rattle.mls_state.specs.declared.table.Table.TheVariants.{Matrix, Accesses}

-- both tables name known subjects and active objects
table_known : (table : Table) (v : State) → HasTree v → Each (triples_of table v) (is_known v)
table_known Matrix v tree = tree.matrix_known
table_known Accesses v tree = tree.accesses_known

-- a triple of what isn't there is in neither
unknown_triple : (table : Table) (v : State) (s o : ℕ) (x : Mode) → HasTree v → (is_subject v s && is_active v o) ≡ false
    → set.contains (triples_of table v) (s, o, x) ≡ false
unknown_triple table v s o x tree unknown = from (set.contains (triples_of table v) (s, o, x)) refl where
  from : (there : Bool) → set.contains (triples_of table v) (s, o, x) ≡ there → there ≡ false
  from false is = refl
  from true is = absurd (let both : (is_subject v s && is_active v o) ≡ true = table_known table v tree (s, o, x) is in cc)

and_false : (a : Bool) → (a && false) ≡ false
and_false true = refl
and_false false = refl

pub unknown_subject : (table : Table) (v : State) (s o : ℕ) (x : Mode) → HasTree v → is_subject v s ≡ false → set.contains (triples_of table v) (s, o, x) ≡ false
unknown_subject table v s o x tree unknown = unknown_triple table v s o x tree (ap (λ b. b && is_active v o) unknown)

pub inactive_object : (table : Table) (v : State) (s o : ℕ) (x : Mode) → HasTree v → is_active v o ≡ false → set.contains (triples_of table v) (s, o, x) ≡ false
inactive_object table v s o x tree inactive = unknown_triple table v s o x tree (ap (λ b. is_subject v s && b) inactive ∙ and_false (is_subject v s))

-- no mode is there, where a subject isn't known
pub none_of_unknown : (modes : ModeSet) (table : Table) (v : State) (s o : ℕ) → modes ≡ set.empty → HasTree v → is_subject v s ≡ false
    → (x : Mode) → set.contains modes x ≡ set.contains (triples_of table v) (s, o, x)
none_of_unknown modes table v s o none tree unknown x =
    ap (λ (m : ModeSet). set.contains m x) none ∙ set.contains-empty mode_cmp x ∙ sym (unknown_subject table v s o x tree unknown)

-- nor where an object isn't active
pub none_of_inactive : (modes : ModeSet) (table : Table) (v : State) (s o : ℕ) → modes ≡ set.empty → HasTree v → is_active v o ≡ false
    → (x : Mode) → set.contains modes x ≡ set.contains (triples_of table v) (s, o, x)
none_of_inactive modes table v s o none tree inactive x =
    ap (λ (m : ModeSet). set.contains m x) none ∙ set.contains-empty mode_cmp x ∙ sym (inactive_object table v s o x tree inactive)
