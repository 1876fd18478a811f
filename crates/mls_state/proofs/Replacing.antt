-- What stands for the subjects of whom one has another current label, and for the objects of which one has another security label.
use Rattle.std.proofs.Common.{◌≡◌, ℕ, ◌<◌, Bool, true, List, length, Some, refl, sym, ap, ◌∙◌, set, get_or}
use Rattle.std.specs.Prelude.{slice_get, nat_lt, ◌&&◌}
use Rattle.std.proofs.lemmas.Bool.{and_parts}
use Rattle.std.proofs.lemmas.List.{length-set}
use Rattle.std.proofs.lemmas.Option.{slice_get_read}
use Rattle.std.specs.FinMap as map
use Rattle.mls_labels.specs.Label.{Label}
use Rattle.mls_state.specs.declared.subject.Subject.{Subject}
use Rattle.mls_state.specs.declared.subject.ObjectLabels.{ObjectLabels}
use Rattle.mls_facts.specs.Numbered.{numbered, places_of}
use Rattle.mls_facts.proofs.Entries.{has-kept, retain_keys-insert}
use Rattle.mls_facts.proofs.Numbered.{within-numbered, is_some-numbered}
use Rattle.mls_state.proofs.NumberedSet.{numbered-set, numbered-kept, places-kept}

-- one subject with another current label
module _ (items : List Subject) (n : ℕ) (old : Subject) (l : Label)
    (known : map.contains_key (numbered (λ (x : Subject). Some x.maximum) items) n ≡ true) (was : old ≡ get_or items n old) where
  within : n < length items
  within = within-numbered (λ (x : Subject). Some x.maximum) items n known

  there : slice_get items n ≡ Some old
  there = slice_get_read items (length items) n old refl within was

  pub maximum_kept : numbered (λ (x : Subject). Some x.maximum) (set items n (record old { current = l })) ≡ numbered (λ (x : Subject). Some x.maximum) items
  maximum_kept = numbered-kept (λ (x : Subject). x.maximum) items n (record old { current = l }) old within there refl

  pub current_replaced : numbered (λ (x : Subject). Some x.current) (set items n (record old { current = l })) ≡ map.insert (numbered (λ (x : Subject). Some x.current) items) n l
  current_replaced = numbered-set (λ (x : Subject). x.current) items n (record old { current = l }) within

  pub subject_integrity_kept : numbered (λ (x : Subject). Some x.integrity) (set items n (record old { current = l })) ≡ numbered (λ (x : Subject). Some x.integrity) items
  subject_integrity_kept = numbered-kept (λ (x : Subject). x.integrity) items n (record old { current = l }) old within there refl

  pub trusted_kept : places_of (λ (x : Subject). x.trusted) (set items n (record old { current = l })) ≡ places_of (λ (x : Subject). x.trusted) items
  trusted_kept = places-kept (λ (x : Subject). x.trusted) items n (record old { current = l }) old within there refl

-- one object with another security label, of those that pass a test
module _ (items : List ObjectLabels) (p : ℕ → Bool) (n : ℕ) (old : ObjectLabels) (l : Label)
    (active : map.contains_key (map.retain_keys (numbered (λ (x : ObjectLabels). Some x.security) items) p) n ≡ true) (was : old ≡ get_or items n old) where
  listed_and_kept : (map.contains_key (numbered (λ (x : ObjectLabels). Some x.security) items) n ≡ true) × (p n ≡ true)
  listed_and_kept =
      and_parts (map.contains_key (numbered (λ (x : ObjectLabels). Some x.security) items) n) (p n) (sym (has-kept (numbered (λ (x : ObjectLabels). Some x.security) items) p n) ∙ active)

  place : n < length items
  place = within-numbered (λ (x : ObjectLabels). Some x.security) items n listed_and_kept.0

  at_place : slice_get items n ≡ Some old
  at_place = slice_get_read items (length items) n old refl place was

  pub security_replaced : map.retain_keys (numbered (λ (x : ObjectLabels). Some x.security) (set items n (record old { security = l }))) p
      ≡ map.insert (map.retain_keys (numbered (λ (x : ObjectLabels). Some x.security) items) p) n l
  security_replaced =
      ap (λ m. map.retain_keys m p) (numbered-set (λ (x : ObjectLabels). x.security) items n (record old { security = l }) place)
      ∙ retain_keys-insert (numbered (λ (x : ObjectLabels). Some x.security) items) p n l listed_and_kept.1

  pub integrity_kept : map.retain_keys (numbered (λ (x : ObjectLabels). Some x.integrity) (set items n (record old { security = l }))) p
      ≡ map.retain_keys (numbered (λ (x : ObjectLabels). Some x.integrity) items) p
  integrity_kept = ap (λ m. map.retain_keys m p) (numbered-kept (λ (x : ObjectLabels). x.integrity) items n (record old { security = l }) old place at_place refl)

-- a list has the places that it had where one item is another
pub subjects_as_many : (items : List Subject) (n : ℕ) (new : Subject) (q : ℕ)
    → map.contains_key (numbered (λ (x : Subject). Some x.maximum) (set items n new)) q ≡ map.contains_key (numbered (λ (x : Subject). Some x.maximum) items) q
subjects_as_many items n new q =
    is_some-numbered (λ (x : Subject). Some x.maximum) (λ _. refl) (set items n new) q
    ∙ ap (nat_lt q) (length-set items n new)
    ∙ sym (is_some-numbered (λ (x : Subject). Some x.maximum) (λ _. refl) items q)

pub objects_as_many : (items : List ObjectLabels) (p : ℕ → Bool) (n : ℕ) (new : ObjectLabels) (q : ℕ)
    → map.contains_key (map.retain_keys (numbered (λ (x : ObjectLabels). Some x.security) (set items n new)) p) q
    ≡ map.contains_key (map.retain_keys (numbered (λ (x : ObjectLabels). Some x.security) items) p) q
objects_as_many items p n new q =
    has-kept (numbered (λ (x : ObjectLabels). Some x.security) (set items n new)) p q
    ∙ ap (λ b. b && p q) (is_some-numbered (λ (x : ObjectLabels). Some x.security) (λ _. refl) (set items n new) q
    ∙ ap (nat_lt q) (length-set items n new)
    ∙ sym (is_some-numbered (λ (x : ObjectLabels). Some x.security) (λ _. refl) items q))
    ∙ sym (has-kept (numbered (λ (x : ObjectLabels). Some x.security) items) p q)

-- what the function that gives a subject another current label needs, and the one that gives an object another security label
pub ruleset with_current_steps = (length-set, subjects_as_many, maximum_kept, current_replaced, subject_integrity_kept, trusted_kept)

pub ruleset with_object_label_steps = (length-set, objects_as_many, security_replaced, integrity_kept)
