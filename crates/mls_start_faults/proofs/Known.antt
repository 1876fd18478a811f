-- Names that are known.
use Rattle.std.proofs.Common.{◌≡◌, ℕ, zero, suc, ◌-◌, ◌<◌, true, false, cond, List, [], ◌∷◌, length, map, get_or, None, Some, option_map, IsTrue, refl, ap, sym, ◌∙◌, arith}
use Rattle.std.specs.Prelude.{slice_get}
use Rattle.std.specs.Str.{bytes_eq}
use Rattle.std.proofs.lemmas.Bool.Decides.{nat_tests}
use Rattle.std.proofs.lemmas.Option.{slice_get-map, slice_get_read}
use Rattle.mls_labels.specs.Reading.{place_of}
use Rattle.mls_lines.specs.Names.{Names}
use Rattle.mls_state.specs.State.{State, is_subject, is_active}
use Rattle.mls_state.specs.declared.subject.ObjectLabels.{ObjectLabels}
use Rattle.mls_start_file.specs.Ties.{AreTied}
use Rattle.mls_start_text.specs.declared.labels.LabelledChild.{LabelledChild}

-- a name's place is one of them
pub place_below : (names : List (List ℕ)) (name : List ℕ) (n : ℕ) → place_of names name ≡ Some n → n < length names
unfolding place_of
place_below [] name n h = cc
place_below (x ∷ names) name n h =
    elim (bytes_eq name x) as (λ b. cond b (Some 0) (option_map (λ m. suc m) (place_of names name)) ≡ Some n → n < suc (length names)) [
      | true ↦ λ h. let first : 0 ≡ n = cc in omega (arith, first)
      | false ↦ λ h. elim (place_of names name) as (λ r. place_of names name ≡ r → option_map (λ m. suc m) r ≡ Some n → n < suc (length names)) [
        | None ↦ λ _ h. cc
        | Some m ↦ λ e h. let later : suc m ≡ n = cc in let below : m < length names = place_below names name m e in omega (arith, later, below)
      ] refl h
    ] h

-- a subject that is named is known in the start
pub subject_known : (names : Names) (v : State) (name : List ℕ) (s : ℕ) → AreTied names v → Some s ≡ place_of names.subjects name → IsTrue (is_subject v s)
subject_known names v name s tied h =
    let below : s < length names.subjects = place_below names.subjects name s (sym h) in
    tied.known s ∙ grind (arith, nat_tests, below)

-- an object that is named is active in the start
pub object_known : (names : Names) (v : State) (name : List ℕ) (o : ℕ) → AreTied names v → Some o ≡ place_of names.objects name → IsTrue (is_active v o)
object_known names v name o tied h =
    let below : o < length names.objects = place_below names.objects name o (sym h) in
    tied.active o ∙ grind (arith, nat_tests, below)

-- the labels of an object behind the root
pub labels_behind : (root : ObjectLabels) (children : List LabelledChild) (n : ℕ) (c : LabelledChild) → (n ≡ 0 → ⊥) → n - 1 < length children → c ≡ get_or children (n - 1) c → Some c.labels ≡ slice_get (root ∷ map (λ c. c.labels) children) n
labels_behind root children zero c behind within is = absurd (behind refl)
labels_behind root children (suc n) c behind within is =
    let e : suc n - 1 ≡ n = omega arith in
    let there : n < length children = omega (arith, within, e) in
    ap (option_map (λ c. c.labels)) (sym (slice_get_read children (length children) n c refl there (is ∙ ap (λ i. get_or children i c) e))) ∙ sym (slice_get-map (λ c. c.labels) children n)
