-- The tables of a state still agree after a change of one of them.
use Rattle.std.proofs.Common.{◌≡◌, ℕ, true, refl}
use Rattle.std.specs.FinSet as set
use Rattle.mls_tables.specs.Triples.{TripleSet}
use Rattle.mls_tables.specs.declared.mode.Mode.{Mode}
use Rattle.mls_state.specs.declared.state.State.TheInside.{Inside}
use Rattle.mls_state.specs.State.{is_subject, is_active}
use Rattle.mls_state.specs.Properties.{Each, is_known}
use Rattle.mls_state.specs.StateView.{state_of, Agrees}
use Rattle.mls_state.proofs.EachTriple.{Each-insert, Each-remove}
use Rattle.std.proofs.lemmas.Bool.{and_from}

module _ {A : Type 0} (a : Inside A) (h : Agrees a) where
  -- other accesses of the same rows and columns, each of a known subject and an active object
  pub agrees-accesses : (ts : TripleSet) → Each ts (is_known (state_of a)) → Agrees (record a { accesses = record a.accesses { triples = ts } })
  agrees-accesses ts known = record {
    matrix_rows = h.matrix_rows;
    access_rows = h.access_rows;
    labels = h.labels;
    place = h.place;
    matrix_columns = h.matrix_columns;
    access_columns = h.access_columns;
    tree = h.tree;
    next = h.next;
    accesses_known = known;
    matrix_known = h.matrix_known;
  }

  -- another matrix of the same rows and columns
  pub agrees-matrix : (ts : TripleSet) → Each ts (is_known (state_of a)) → Agrees (record a { matrix = record a.matrix { triples = ts } })
  agrees-matrix ts known = record {
    matrix_rows = h.matrix_rows;
    access_rows = h.access_rows;
    labels = h.labels;
    place = h.place;
    matrix_columns = h.matrix_columns;
    access_columns = h.access_columns;
    tree = h.tree;
    next = h.next;
    accesses_known = h.accesses_known;
    matrix_known = known;
  }

-- a change of the triples of one table, or of both; what comes first is the set that has changed, by which `grind` finds the rest
module _ {A : Type 0} (a : Inside A) (s o : ℕ) (x : Mode) (h : Agrees a) where
  pub agrees_put : is_subject (state_of a) s ≡ true → is_active (state_of a) o ≡ true
      → (set.insert a.accesses.triples (s, o, x) ≡ set.insert a.accesses.triples (s, o, x)) × Agrees (record a { accesses = record a.accesses { triples = set.insert a.accesses.triples (s, o, x) } })
  agrees_put subject object = (refl, agrees-accesses a h _ (Each-insert a.accesses.triples (s, o, x) (is_known (state_of a)) h.accesses_known (and_from _ _ subject object)))

  pub agrees_removed : (set.remove a.accesses.triples (s, o, x) ≡ set.remove a.accesses.triples (s, o, x)) × Agrees (record a { accesses = record a.accesses { triples = set.remove a.accesses.triples (s, o, x) } })
  agrees_removed = (refl, agrees-accesses a h _ (Each-remove a.accesses.triples (s, o, x) (is_known (state_of a)) h.accesses_known))

  pub agrees_given : is_subject (state_of a) s ≡ true → is_active (state_of a) o ≡ true
      → (set.insert a.matrix.triples (s, o, x) ≡ set.insert a.matrix.triples (s, o, x)) × Agrees (record a { matrix = record a.matrix { triples = set.insert a.matrix.triples (s, o, x) } })
  agrees_given subject object = (refl, agrees-matrix a h _ (Each-insert a.matrix.triples (s, o, x) (is_known (state_of a)) h.matrix_known (and_from _ _ subject object)))

  pub agrees_rescinded : (set.remove a.matrix.triples (s, o, x) ≡ set.remove a.matrix.triples (s, o, x))
      × Agrees (record a { matrix = record a.matrix { triples = set.remove a.matrix.triples (s, o, x) }; accesses = record a.accesses { triples = set.remove a.accesses.triples (s, o, x) } })
  agrees_rescinded = (
    refl,
    record {
      matrix_rows = h.matrix_rows;
      access_rows = h.access_rows;
      labels = h.labels;
      place = h.place;
      matrix_columns = h.matrix_columns;
      access_columns = h.access_columns;
      tree = h.tree;
      next = h.next;
      accesses_known = Each-remove a.accesses.triples (s, o, x) (is_known (state_of a)) h.accesses_known;
      matrix_known = Each-remove a.matrix.triples (s, o, x) (is_known (state_of a)) h.matrix_known;
    },
  )
