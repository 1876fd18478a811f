-- The rows of a state, part by part.
use Rattle.std.proofs.Common.{◌≡◌, ℕ, ◌+◌, Bool, true, false, List, [], ◌∷◌, ◌++◌, Option, Some, None, refl, sym, ap, ◌∙◌, append-nil, cond, filter, map as map_list}
use Rattle.std.specs.Prelude.{is_some}
use Rattle.std.specs.FinMap as map
use Rattle.std.specs.FinSet as set
use Rattle.std.specs.List.{flat_map, range_with_len}
use Rattle.std.proofs.lemmas.List.Concat.{flat_map-cons}
use Rattle.std.proofs.lemmas.List.{append_assoc}
use Rattle.mls_facts.proofs.Gathered.{grows, range_flat_more}
use Rattle.mls_labels.specs.Label.{Label}
use Rattle.mls_lines.specs.Names.{Names}
use Rattle.mls_rows.specs.declared.form.Form.{Form}
use Rattle.mls_state.specs.State.{State, is_subject, is_active}
use Rattle.mls_state.specs.Properties.{HasTree}
use Rattle.mls_state.specs.Tables.{triples_of}
use Rattle.mls_state.specs.declared.table.Table.{Table}
use Rattle.mls_state.proofs.Laws.{unknown_subject}
use Rattle.mls_tables.specs.declared.mode.Mode.{Mode}
use Rattle.mls_tables.specs.declared.mode.Mode.TheVariants.{Execute, Read, Append, Write}
use Rattle.mls_tables.specs.Triples.{Triple, TripleSet}
use Rattle.mls_tables.specs.declared.limits.TheConstants.{MAX_OBJECTS}
use Rattle.mls_wording.specs.Where.{only_if}
use Rattle.mls_shared_rows.specs.StateRows.{subject_row, object_row, triple_bytes, subject_bytes, object_bytes, subjects_bytes, objects_bytes, cell_bytes, cells_bytes, table_bytes}

-- bytes to which nothing is added yet
pub begins : (old part : List ℕ) → part ≡ [] → old ≡ old ++ part
begins old part none = sym (append-nil old) ∙ ap (λ t. old ++ t) (sym none)

-- rows of one part more, in the form of what was there
pub grows_in : (line : Form → List ℕ) (old now new part longer : List ℕ) (f g : Form) → f ≡ g → now ≡ old ++ part → new ≡ now ++ line f
    → longer ≡ part ++ line g → new ≡ old ++ longer
grows_in line old now new part longer f g same so_far added more =
    grows old now new part longer (line g) so_far (added ∙ ap (λ h. now ++ line h) same) more

-- rows behind others, in the form of what was there
pub then_in : (f g : Form → List ℕ) (old now new : List ℕ) (a b : Form) → b ≡ a → now ≡ old ++ f a → new ≡ now ++ g b
    → new ≡ old ++ (f a ++ g a)
then_in f g old now new a b same first second = second ∙ (λ i. first i ++ g (same i)) ∙ append_assoc old (f a) (g a)

pub subjects_none : (form : Form) (names : Names) (v : State) → subjects_bytes form names v 0 ≡ []
unfolding subjects_bytes
subjects_none form names v = refl

pub subjects_more : (form : Form) (names : Names) (v : State) (n : ℕ)
    → subjects_bytes form names v (n + 1) ≡ subjects_bytes form names v n ++ subject_bytes form names v n
unfolding subjects_bytes
subjects_more form names v n = range_flat_more (subject_bytes form names v) n

pub objects_none : (form : Form) (names : Names) (v : State) → objects_bytes form names v 0 ≡ []
unfolding objects_bytes
objects_none form names v = refl

pub objects_more : (form : Form) (names : Names) (v : State) (n : ℕ)
    → objects_bytes form names v (n + 1) ≡ objects_bytes form names v n ++ object_bytes form names v n
unfolding objects_bytes
objects_more form names v n = range_flat_more (object_bytes form names v) n

pub cells_none : (form : Form) (word : List ℕ) (names : Names) (b : TripleSet) (s : ℕ) → cells_bytes form word names b s 0 ≡ []
unfolding cells_bytes
cells_none form word names b s = refl

pub cells_more : (form : Form) (word : List ℕ) (names : Names) (b : TripleSet) (s n : ℕ)
    → cells_bytes form word names b s (n + 1) ≡ cells_bytes form word names b s n ++ cell_bytes form word names b s n
unfolding cells_bytes
cells_more form word names b s n = range_flat_more (cell_bytes form word names b s) n

pub table_none : (form : Form) (word : List ℕ) (names : Names) (b : TripleSet) → table_bytes form word names b 0 ≡ []
unfolding table_bytes
table_none form word names b = refl

pub table_more : (form : Form) (word : List ℕ) (names : Names) (b : TripleSet) (n : ℕ)
    → table_bytes form word names b (n + 1) ≡ table_bytes form word names b n ++ cells_bytes form word names b n MAX_OBJECTS
unfolding table_bytes
table_more form word names b n = range_flat_more (λ s. cells_bytes form word names b s MAX_OBJECTS) n

-- a subject that isn't known has no row
pub no_subject : (form : Form) (names : Names) (v : State) (s : ℕ) → is_subject v s ≡ false → subject_bytes form names v s ≡ []
no_subject form names v s unknown = from (map.get v.maximum s) refl where
  from : (there : Option Label) → map.get v.maximum s ≡ there → subject_bytes form names v s ≡ []
  from None is = ap (λ (m : Option Label). subject_row form names s m (map.get v.current s) (map.get v.subject_integrity s) (set.contains v.trusted s)) is
  from (Some l) is = absurd (let no : true ≡ false = sym (ap is_some is) ∙ unknown in cc)

-- an object that isn't active has no row
pub no_object : (form : Form) (names : Names) (v : State) (o : ℕ) → is_active v o ≡ false → object_bytes form names v o ≡ []
no_object form names v o inactive = from (map.get v.object_label o) refl where
  from : (there : Option Label) → map.get v.object_label o ≡ there → object_bytes form names v o ≡ []
  from None is = ap (λ (m : Option Label). object_row form names o m (map.get v.object_integrity o) (map.get v.parent o)) is
  from (Some l) is = absurd (let no : true ≡ false = sym (ap is_some is) ∙ inactive in cc)

-- a subject's row, where its labels are known
pub subject_is : (form : Form) (names : Names) (v : State) (s : ℕ) (m c i : Label) (t : Bool) → map.get v.maximum s ≡ Some m
    → map.get v.current s ≡ Some c → map.get v.subject_integrity s ≡ Some i → set.contains v.trusted s ≡ t
    → subject_bytes form names v s ≡ subject_row form names s (Some m) (Some c) (Some i) t
subject_is form names v s m c i t maximum current integrity trusted =
    λ k. subject_row form names s (maximum k) (current k) (integrity k) (trusted k)

-- an object's row, where its labels are known
pub object_is : (form : Form) (names : Names) (v : State) (o : ℕ) (l i : Label) (p : Option ℕ) → map.get v.object_label o ≡ Some l
    → map.get v.object_integrity o ≡ Some i → p ≡ map.get v.parent o
    → object_bytes form names v o ≡ object_row form names o (Some l) (Some i) p
object_is form names v o l i p security integrity parent = λ k. object_row form names o (security k) (integrity k) (sym parent k)

module _ {X : Type 0} (f : X → List ℕ) (p : X → Bool) where
  -- the row of the first item, where it passes, and of the others
  first : (x : X) (xs : List X) → flat_map f (filter p (x ∷ xs)) ≡ only_if (p x) (f x) ++ flat_map f (filter p xs)
  first x xs = elim (p x) as (λ b. flat_map f (cond b (x ∷ filter p xs) (filter p xs)) ≡ only_if b (f x) ++ flat_map f (filter p xs)) [
    | true ↦ refl
    | false ↦ refl
  ]

  -- four items, one after the other
  four : (old : List ℕ) (a b c d : X)
      → (((old ++ only_if (p a) (f a)) ++ only_if (p b) (f b)) ++ only_if (p c) (f c)) ++ only_if (p d) (f d)
      ≡ old ++ flat_map f (filter p (a ∷ b ∷ c ∷ d ∷ []))
  four old a b c d =
      let A = only_if (p a) (f a) in
      let B = only_if (p b) (f b) in
      let C = only_if (p c) (f c) in
      let D = only_if (p d) (f d) in
      append_assoc ((old ++ A) ++ B) C D ∙ append_assoc (old ++ A) B (C ++ D) ∙ append_assoc old A (B ++ (C ++ D))
      ∙ ap (λ t. old ++ t) (sym (first a (b ∷ c ∷ d ∷ [])
      ∙ ap (λ t. A ++ t) (first b (c ∷ d ∷ [])
      ∙ ap (λ t. B ++ t) (first c (d ∷ [])
      ∙ ap (λ t. C ++ t) (first d [] ∙ append-nil D)))))

-- four rows in one form, each where its triple is there
pub four_added : (f : Form → Triple → List ℕ) (p : Triple → Bool) (a b c d : Triple) (pa pb pc pd : Bool) (g0 g1 g2 g3 : Form) (t0 t1 t2 t3 t4 : List ℕ)
    → pa ≡ p a → pb ≡ p b → pc ≡ p c → pd ≡ p d → g1 ≡ g0 → g2 ≡ g1 → g3 ≡ g2 → t1 ≡ t0 ++ only_if pa (f g0 a) → t2 ≡ t1 ++ only_if pb (f g1 b)
    → t3 ≡ t2 ++ only_if pc (f g2 c) → t4 ≡ t3 ++ only_if pd (f g3 d) → t4 ≡ t0 ++ flat_map (f g0) (filter p (a ∷ b ∷ c ∷ d ∷ []))
four_added f p a b c d pa pb pc pd g0 g1 g2 g3 t0 t1 t2 t3 t4 ea eb ec ed s1 s2 s3 e1 e2 e3 e4 =
    let to2 : g2 ≡ g0 = s2 ∙ s1 in
    let to3 : g3 ≡ g0 = s3 ∙ to2 in
    e4 ∙ ap (λ t. t ++ only_if pd (f g3 d)) (e3 ∙ ap (λ t. t ++ only_if pc (f g2 c)) (e2 ∙ ap (λ t. t ++ only_if pb (f g1 b)) e1))
    ∙ (λ i. (((t0 ++ only_if (ea i) (f g0 a)) ++ only_if (eb i) (f (s1 i) b)) ++ only_if (ec i) (f (to2 i) c)) ++ only_if (ed i) (f (to3 i) d))
    ∙ four (f g0) p t0 a b c d

-- rows of nothing
flat_none : (f : ℕ → List ℕ) (xs : List ℕ) → ((k : ℕ) → f k ≡ []) → flat_map f xs ≡ []
flat_none f [] none = refl
flat_none f (x ∷ xs) none = flat_map-cons f x xs ∙ ap (λ t. t ++ flat_map f xs) (none x) ∙ flat_none f xs none

filter_none : {X Y : Type 0} (p : Y → Bool) (g : X → Y) (xs : List X) → ((x : X) → p (g x) ≡ false) → filter p (map_list g xs) ≡ []
filter_none p g [] none = refl
filter_none p g (x ∷ xs) none = ap (λ b. cond b (g x ∷ filter p (map_list g xs)) (filter p (map_list g xs))) (none x) ∙ filter_none p g xs none

cell_none : (form : Form) (word : List ℕ) (names : Names) (b : TripleSet) (s o : ℕ) → ((x : Mode) → set.contains b (s, o, x) ≡ false)
    → cell_bytes form word names b s o ≡ []
cell_none form word names b s o none =
    let mode : Mode → Triple = λ x. (s, o, x) in
    ap (flat_map (triple_bytes form word names)) (filter_none (set.contains b) mode (Execute ∷ Read ∷ Append ∷ Write ∷ []) none)

-- a subject that isn't known has no triples
pub cells_unknown : (form : Form) (word : List ℕ) (names : Names) (table : Table) (v : State) (s n : ℕ) → HasTree v → is_subject v s ≡ false
    → cells_bytes form word names (triples_of table v) s n ≡ []
unfolding cells_bytes
cells_unknown form word names table v s n tree unknown =
    flat_none (cell_bytes form word names (triples_of table v) s) (range_with_len 0 n)
    (λ o. cell_none form word names (triples_of table v) s o (λ x. unknown_subject table v s o x tree unknown))
