-- What is wrong with names, name by name.
use Rattle.std.specs.Prelude.{◌≡◌, ℕ, suc, ◌+◌, ◌<◌, Bool, true, false, cond, not, ◌||◌, List, [], ◌∷◌, ◌++◌, map, length, refl, Option}
use Rattle.std.specs.List.{list_any}
use Rattle.std.specs.Str.{bytes_eq}
use Rattle.std.proofs.Common.{Bor, take, get_or, ap, sym, ◌∙◌, append-nil}
use Rattle.std.proofs.lemmas.List.{append_assoc, map_more}
use Rattle.std.proofs.lemmas.Bool.{or_right}
use Rattle.std.proofs.lemmas.List.Folds.{list_any-append}
use Rattle.std.proofs.lemmas.Slice.Eq.{bytes_eq-Decides}
use Rattle.mls_start_faults.specs.NameFaults.{name_fault, faults_after}
use Rattle.mls_start_faults.specs.declared.name_fault.NameFault.{NameFault}

-- in the words of a slice's `contains`
pub any_other : (text : List ℕ) (xs : List (Bor (List ℕ))) → list_any (λ other. bytes_eq other.now text) xs ≡ list_any (bytes_eq text) (map (λ x. x.now) xs)
any_other text [] = refl
any_other text (x ∷ xs) = rw (any_other text xs, same x.now text) refl where
  same : (a b : List ℕ) → bytes_eq a b ≡ bytes_eq b a
  same a b = elim (bytes_eq a b) as (λ t. bytes_eq a b ≡ t → t ≡ bytes_eq b a) [
    | true ↦ λ e. let is : a ≡ b = (bytes_eq-Decides a b).0 e in sym ((bytes_eq-Decides b a).1 (sym is))
    | false ↦ λ e. elim (bytes_eq b a) as (λ t. bytes_eq b a ≡ t → false ≡ t) [
      | true ↦ λ h. let is : b ≡ a = (bytes_eq-Decides b a).0 h in sym e ∙ (bytes_eq-Decides a b).1 (sym is)
      | false ↦ λ _. refl
    ] refl
  ] refl

-- the faults of names with one more at the end
pub faults_last : (before names : List (List ℕ)) (name : List ℕ) → faults_after before (names ++ name ∷ []) ≡ faults_after before names ++ name_fault (before ++ names) name ∷ []
faults_last before [] name = ap (λ front. name_fault front name ∷ []) (sym (append-nil before))
faults_last before (x ∷ names) name =
    ap (λ rest. name_fault before x ∷ rest)
    (faults_last (before ++ x ∷ []) names name ∙ ap (λ front. faults_after (before ++ x ∷ []) names ++ name_fault front name ∷ []) (append_assoc before (x ∷ []) names))

-- the names that were seen are those of a list
abbrev pub SeenAre : List (List ℕ) → List (List ℕ) → Type 0
SeenAre seen names = (x : List ℕ) → list_any (bytes_eq x) seen ≡ list_any (bytes_eq x) names

-- as many texts as there are borrows of them
pub count_seen : (xs : List (Bor (List ℕ))) → length (map (λ x. x.now) xs) ≡ length xs
count_seen [] = refl
count_seen (x ∷ xs) = ap (λ n. suc n) (count_seen xs)

-- one name more, which was added where it wasn't seen
pub seen_more : (seen new names : List (List ℕ)) (name : List ℕ) (added : Bool) → SeenAre seen names → added ≡ not (list_any (bytes_eq name) seen) → new ≡ cond added (seen ++ name ∷ []) seen → SeenAre new (names ++ name ∷ [])
seen_more seen new names name added before is kept x =
    elim (list_any (bytes_eq name) seen) as (λ b. list_any (bytes_eq name) seen ≡ b → added ≡ not b → list_any (bytes_eq x) new ≡ list_any (bytes_eq x) (names ++ name ∷ [])) [
      | false ↦ λ _ yes.
          ap (list_any (bytes_eq x)) (kept ∙ ap (λ t. cond t (seen ++ name ∷ []) seen) yes)
          ∙ list_any-append (bytes_eq x) seen (name ∷ []) ∙ ap (λ t. t || (bytes_eq x name || false)) (before x)
          ∙ sym (list_any-append (bytes_eq x) names (name ∷ []))
      | true ↦ λ there no.
          ap (list_any (bytes_eq x)) (kept ∙ ap (λ t. cond t (seen ++ name ∷ []) seen) no)
          ∙ elim (bytes_eq x name) as (λ b. bytes_eq x name ≡ b → list_any (bytes_eq x) seen ≡ (list_any (bytes_eq x) names || (b || false))) [
            | true ↦ λ e.
                let same : x ≡ name = (bytes_eq-Decides x name).0 e in
                ap (λ y. list_any (bytes_eq y) seen) same ∙ there ∙ sym (or_right (list_any (bytes_eq x) names) (true || false) refl)
            | false ↦ λ _. before x ∙ sym (or_false (list_any (bytes_eq x) names))
          ] refl
          ∙ sym (list_any-append (bytes_eq x) names (name ∷ []))
    ] refl is where
      or_false : (t : Bool) → (t || (false || false)) ≡ t
      or_false true = refl
      or_false false = refl

-- the names so far with one more, and what is wrong with it
pub faults_more : (names : List (Bor (List ℕ))) (k : ℕ) (d : Bor (List ℕ)) (faults new : List (Option NameFault)) (fault : Option NameFault) → k < length names
    → faults ≡ faults_after [] (map (λ name. name.now) (take k names)) → new ≡ faults ++ fault ∷ [] → fault ≡ name_fault (map (λ name. name.now) (take k names)) (get_or names k d).now
    → new ≡ faults_after [] (map (λ name. name.now) (take (k + 1) names))
faults_more names k d faults new fault within so push is =
    push ∙ ap (λ front. front ++ fault ∷ []) so ∙ ap (λ f. faults_after [] (map (λ name. name.now) (take k names)) ++ f ∷ []) is
    ∙ sym (faults_last [] (map (λ name. name.now) (take k names)) (get_or names k d).now)
    ∙ ap (faults_after []) (sym (map_more (λ name. name.now) names k d within))

-- a name was seen before where it isn't new
pub seen_before : (seen names : List (List ℕ)) (name : List ℕ) (is_new : Bool) → SeenAre seen names → is_new ≡ not (list_any (bytes_eq name) seen) → list_any (bytes_eq name) names ≡ not is_new
seen_before seen names name is_new before is = sym (before name) ∙ twice (list_any (bytes_eq name) seen) ∙ ap not (sym is) where
  twice : (t : Bool) → t ≡ not (not t)
  twice true = refl
  twice false = refl

-- one name more of a list
pub seen_taken : (names : List (Bor (List ℕ))) (k : ℕ) (d : Bor (List ℕ)) (seen new : List (List ℕ)) (added : Bool) → k < length names → SeenAre seen (map (λ name. name.now) (take k names))
    → added ≡ not (list_any (bytes_eq (get_or names k d).now) seen) → new ≡ cond added (seen ++ (get_or names k d).now ∷ []) seen → SeenAre new (map (λ name. name.now) (take (k + 1) names))
seen_taken names k d seen new added within before is kept x =
    seen_more seen new (map (λ name. name.now) (take k names)) (get_or names k d).now added before is kept x
    ∙ ap (list_any (bytes_eq x)) (sym (map_more (λ name. name.now) names k d within))
