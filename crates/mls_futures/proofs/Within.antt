-- Labels stay within the bounds.
use Rattle.std.proofs.Common.{◌≡◌, ℕ, zero, suc, true, ◌&&◌, List, [], ◌∷◌, Some, None, map, sym, ap, ◌∙◌}
use Rattle.std.specs.Prelude.{slice_get, option_and_then}
use Rattle.std.specs.List.{list_all}
use Rattle.std.proofs.lemmas.Bool.{and_parts, and_from}
use Rattle.std.proofs.lemmas.List.Folds.{list_all-map}
use Rattle.std.specs.FinMap as maps
use Rattle.std.specs.FinMap.{FinMap}
use Rattle.std.specs.Ordering.{nat_cmp}
use Rattle.mls_facts.proofs.Entries.{by_number, at_new, elsewhere, was_there}
use Rattle.mls_labels.specs.Label.{Label, Bounds, has_label}
use Rattle.mls_facts.proofs.Numbered.{get-numbered}
use Rattle.mls_requests.specs.declared.action.Action.{Action}
use Rattle.mls_requests.specs.declared.action.Action.TheVariants.{Get, Release, Give, Rescind, Create, Delete, SubjectLevel, ObjectLevel}
use Rattle.mls_requests.specs.declared.request.Request.{Request}
use Rattle.mls_requests.specs.declared.entry.Entry.{Entry}
use Rattle.mls_state.specs.State.{State, is_subject, is_active}
use Rattle.mls_state.specs.Changes.{stays}
use Rattle.mls_state.specs.declared.subject.ObjectLabels.{ObjectLabels}
use Rattle.mls_start.specs.declared.object_row.ObjectRow.{ObjectRow}
use Rattle.mls_start.specs.Rows.{Rows, labels_of, opening}
use Rattle.mls_start.specs.StartFaults.{subject_within, labels_within, labels_fit, start_fault}
use Rattle.mls_start.proofs.Laws.{faultless}
use Rattle.mls_rules.specs.Rules.{change, after, names_known}
use Rattle.mls_rules.proofs.Laws.{after_keeps}
use Rattle.mls_monitor.specs.Journal.{fold}
use Rattle.mls_futures.specs.Futures.{HasLabelsWithin}

same_label : (a b : Label) → Some a ≡ Some b → a ≡ b
same_label a b is = cc

-- with one label more that is within the bounds, or in place of another one, all still are
pub within_insert : (b : Bounds) (m : FinMap nat_cmp Label) (n : ℕ) (l : Label) → ((o : ℕ) (k : Label) → maps.get m o ≡ Some k → has_label b k ≡ true) → has_label b l ≡ true
    → (o : ℕ) (k : Label) → maps.get (maps.insert m n l) o ≡ Some k → has_label b k ≡ true
within_insert b m n l within fits o k at =
    by_number n o (λ q. maps.get (maps.insert m n l) q ≡ Some k → has_label b k ≡ true)
    (λ is. ap (has_label b) (sym (same_label l k (sym (at_new m n l) ∙ is))) ∙ fits)
    (λ other is. within o k (sym (elsewhere m n l o other) ∙ is)) at

change_within : (v : State) (s : ℕ) (a : Action) → (is_subject v s && names_known v a) ≡ true → HasLabelsWithin v → HasLabelsWithin (change v s a)
change_within v s (Get x o) known within = within
change_within v s (Release x o) known within = within
change_within v s (Give x t o) known within = within
change_within v s (Rescind x t o) known within = within
change_within v s (Create p l i) known within =
    within_insert v.security v.object_label v.next l within
    ((and_parts (has_label v.security l) (has_label v.integrity i)
    ((and_parts (is_active v p) (has_label v.security l && has_label v.integrity i) ((and_parts (is_subject v s) (names_known v (Create p l i)) known).1)).1)).0)
change_within v s (Delete o) known within = λ q k at. within q k ((was_there v.object_label (stays v o) q k at).1)
change_within v s (SubjectLevel l) known within = within
change_within v s (ObjectLevel o l) known within =
    within_insert v.security v.object_label o l within
    ((and_parts (is_active v o) (has_label v.security l) ((and_parts (is_subject v s) (names_known v (ObjectLevel o l)) known).1)).1)

after_within : (v : State) (r : Request) → HasLabelsWithin v → HasLabelsWithin (after v r)
after_within v r within = after_keeps HasLabelsWithin v r within (λ granted. change_within v r.subject r.action granted.0 within)

pub fold_within : (v : State) (entries : List Entry) → HasLabelsWithin v → HasLabelsWithin (fold v entries)
fold_within v [] within = within
fold_within v (e ∷ entries) within = fold_within (after v e.request) entries (after_within v e.request within)

-- one of a list of labels that all are within the bounds
one_within : (security integrity : Bounds) (ls : List ObjectLabels) (n : ℕ) (k : Label) → list_all (labels_within security integrity) ls ≡ true
    → option_and_then (λ (o : ObjectLabels). Some o.security) (slice_get ls n) ≡ Some k → has_label security k ≡ true
one_within security integrity [] n k all at = cc
one_within security integrity (l ∷ ls) zero k all at =
    ap (has_label security) (same_label k l.security (sym at))
    ∙ (and_parts (has_label security l.security) (has_label integrity l.integrity) ((and_parts (labels_within security integrity l) (list_all (labels_within security integrity) ls) all).0)).0
one_within security integrity (l ∷ ls) (suc n) k all at =
    one_within security integrity ls n k ((and_parts (labels_within security integrity l) (list_all (labels_within security integrity) ls) all).1) at

-- each start without a fault opens with its labels within the bounds
pub opens_within : (rows : Rows) → start_fault rows ≡ None → HasLabelsWithin (opening rows)
unfolding opening
opens_within rows none o k at =
    one_within rows.security rows.integrity (labels_of rows) o k all
    (sym (get-numbered (λ (x : ObjectLabels). Some x.security) (labels_of rows) o) ∙ at) where
      fits : labels_fit rows ≡ true
      fits = (faultless rows none).labels

      objects : (labels_within rows.security rows.integrity rows.root && list_all (λ (x : ObjectRow). labels_within rows.security rows.integrity x.labels) rows.objects) ≡ true
      objects = (and_parts (list_all (subject_within rows.security rows.integrity) rows.subjects) _ fits).1

      all : list_all (labels_within rows.security rows.integrity) (labels_of rows) ≡ true
      all =
          let parts = and_parts (labels_within rows.security rows.integrity rows.root) (list_all (λ (x : ObjectRow). labels_within rows.security rows.integrity x.labels) rows.objects) objects in
          and_from (labels_within rows.security rows.integrity rows.root) (list_all (labels_within rows.security rows.integrity) (map (λ (x : ObjectRow). x.labels) rows.objects)) parts.0
          (list_all-map (labels_within rows.security rows.integrity) (λ (x : ObjectRow). x.labels) rows.objects ∙ parts.1)
