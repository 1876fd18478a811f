-- A list seen as a map from places, of which just the places that a test passes are kept.
use Rattle.std.proofs.Common.{◌≡◌, ℕ, ◌<◌, Bool, true, false, cond, List, length, Some, None, is_some, refl, ap, ◌∙◌, get_or}
use Rattle.std.specs.Ordering.{nat_cmp}
use Rattle.std.specs.FinMap as map
use Rattle.std.specs.FinMap.{FinMap}
use Rattle.std.proofs.lemmas.Bool.{lt-ltb}
use Rattle.mls_facts.proofs.Entries.{get-kept as entry-kept}
use Rattle.mls_facts.specs.Numbered.{numbered}
use Rattle.mls_facts.proofs.Numbered.{is_some-numbered, get-numbered-read}

module _ {A X : Type 0} (f : A → X) (items : List A) (p : ℕ → Bool) where
  kept : FinMap nat_cmp X
  kept = map.retain_keys (numbered (λ a. Some (f a)) items) p

  kept_when : (o : ℕ) (b : Bool) → p o ≡ b → (p o ≡ true → o < length items) → is_some (cond b (map.get (numbered (λ a. Some (f a)) items) o) None) ≡ b
  kept_when o true is below = is_some-numbered (λ a. Some (f a)) (λ _. refl) items o ∙ lt-ltb o (length items) (below is)
  kept_when o false is below = refl

  -- the map has a number exactly where the test passes it, if each number that passes is a place of the list
  pub contains-kept : (o : ℕ) → (p o ≡ true → o < length items) → is_some (map.get (map.retain_keys (numbered (λ a. Some (f a)) items) p) o) ≡ p o
  contains-kept o below = ap is_some (entry-kept (numbered (λ a. Some (f a)) items) p o) ∙ kept_when o (p o) refl below

  -- what the map has at a place that passes
  pub get-kept : (o : ℕ) (x : A) → p o ≡ true → o < length items → x ≡ get_or items o x → map.get (map.retain_keys (numbered (λ a. Some (f a)) items) p) o ≡ Some (f x)
  get-kept o x passes within is =
      entry-kept (numbered (λ a. Some (f a)) items) p o ∙ ap (λ b. cond b (map.get (numbered (λ a. Some (f a)) items) o) None) passes ∙ get-numbered-read (λ a. Some (f a)) items o x within is
