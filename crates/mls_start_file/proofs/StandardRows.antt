-- With the rows of the standard start nothing is wrong.
use Rattle.std.proofs.Common.{◌≡◌, ℕ, Bool, true, false, ◌&&◌, [], ◌∷◌, None, nat_le, nat_lt, refl, arith}
use Rattle.std.specs.List.{list_all}
use Rattle.std.specs.Ordering.{nat_cmp}
use Rattle.std.specs.Cmp.{nat_cmp_total}
use Rattle.std.specs.FinSet as set
use Rattle.std.specs.FinSet.{nat_cmp-IsAntisymmetric}
use Rattle.std.proofs.lemmas.Bool.{and_from}
use Rattle.mls_facts.specs.Each.{each}
use Rattle.mls_facts.proofs.Each.{each-from_list}
use Rattle.mls_labels.specs.Label.{Label, Bounds, dominates, has_label}
use Rattle.mls_labels.proofs.Laws.{reflexive}
use Rattle.mls_tables.specs.Triples.{Triple, triple_cmp}
use Rattle.mls_tables.proofs.Laws.{triples_total, same_triple}
use Rattle.mls_start.proofs.Laws.{with_triples-from_list, from_faultless}
use Rattle.mls_state.specs.Audit.{access_holds}
use Rattle.mls_state.specs.First.{with_triples}
use Rattle.mls_start.specs.Rows.{labels_of, opening}
use Rattle.mls_start.specs.StartFaults.{start_fault, labels_fit, current_fits, security_fits, integrity_fits, is_cell}
use Rattle.mls_start_file.proofs.Tied.{counted}
use Rattle.mls_start_file.specs.Ties.{AreTied}
use Rattle.mls_start_file.specs.Standard.{standard_names, standard_rows, standard_subjects, standard_objects, standard_cells, plain, secret, top}

-- a label with the categories of a list is within bounds that have these
within : (b : Bounds) (l : Label) → nat_lt l.level b.levels ≡ true → each l.categories (λ n. nat_lt n b.categories) ≡ true → has_label b l ≡ true
within b l level categories i = level i && categories i

within_plain : (b : Bounds) (n : ℕ) → nat_lt n b.levels ≡ true → has_label b (plain n) ≡ true
within_plain b n level = within b (plain n) level (each-from_list nat_cmp_total nat_cmp-IsAntisymmetric (λ k. nat_lt k b.categories) [])

-- a label without categories is dominated by each that is as high
above_plain : (l : Label) (n : ℕ) → nat_le n l.level ≡ true → dominates l (plain n) ≡ true
above_plain l n high =
    and_from (nat_le n l.level) (set.is_subset set.empty l.categories) high
    (set.contains-is_subset nat_cmp_total set.empty l.categories (λ q there. let none : set.contains {R = nat_cmp} set.empty q ≡ false = set.contains-empty nat_cmp q in cc))

abbrev security : Bounds
security = standard_rows.security

abbrev integrity : Bounds
integrity = standard_rows.integrity

secret_within : has_label security secret ≡ true
secret_within = within security secret refl (each-from_list nat_cmp_total nat_cmp-IsAntisymmetric (λ k. nat_lt k 2) (0 ∷ []))

top_within : has_label security top ≡ true
top_within = within security top refl (each-from_list nat_cmp_total nat_cmp-IsAntisymmetric (λ k. nat_lt k 2) (1 ∷ 0 ∷ []))

plain_within : (n : ℕ) → nat_lt n 4 ≡ true → has_label security (plain n) ≡ true
plain_within n low = within_plain security n low

low_within : has_label integrity (plain 0) ≡ true
low_within = within_plain integrity 0 refl

high_within : has_label integrity (plain 1) ≡ true
high_within = within_plain integrity 1 refl

all_within : labels_fit standard_rows ≡ true
all_within = λ i.
    ((secret_within i && (secret_within i && high_within i))
    && ((plain_within 1 refl i && (plain_within 0 refl i && low_within i))
    && ((top_within i && (plain_within 0 refl i && high_within i))
    && ((secret_within i && (plain_within 0 refl i && high_within i)) && true))))
    && ((plain_within 0 refl i && high_within i)
    && ((secret_within i && high_within i)
    && ((plain_within 1 refl i && low_within i) && ((plain_within 0 refl i && low_within i) && true))))

currents : list_all current_fits standard_subjects ≡ true
currents = λ i. reflexive secret i && (above_plain (plain 1) 0 refl i && (above_plain top 0 refl i && (above_plain secret 0 refl i && true)))

compatible : list_all (security_fits (labels_of standard_rows)) standard_objects ≡ true
compatible = λ i. above_plain secret 0 refl i && (above_plain (plain 1) 0 refl i && (above_plain (plain 0) 0 refl i && true))

integrities : list_all (integrity_fits (labels_of standard_rows)) standard_objects ≡ true
integrities = λ i. reflexive (plain 1) i && (above_plain (plain 1) 0 refl i && (above_plain (plain 1) 0 refl i && true))

cells : each standard_rows.cells (is_cell 4 4) ≡ true
cells = each-from_list triples_total same_triple (is_cell 4 4) standard_cells

no_access : (p : Triple → Bool) → each {R = triple_cmp} standard_rows.accesses p ≡ true
no_access p = each-from_list triples_total same_triple p []

-- to permit the cells one after the other is to permit their set
pub all_cells : with_triples set.empty standard_cells ≡ set.from_list {R = triple_cmp} standard_cells
all_cells = with_triples-from_list [] standard_cells

pub nothing_wrong : start_fault standard_rows ≡ None
nothing_wrong = from_faultless standard_rows (record {
  some = omega arith;
  few = omega arith;
  room = omega arith;
  labels = all_within;
  parents = refl;
  currents = currents;
  security = compatible;
  integrity = integrities;
  cells = cells;
  accesses = no_access (is_cell 4 4);
  secure = no_access (access_holds (opening standard_rows));
})

-- the names of the standard start go with what its rows open with
pub names_tied : AreTied standard_names (opening standard_rows)
names_tied = counted standard_rows
