-- Members and lists of a tree.
use Rattle.std.proofs.Common.{◌≡◌, ℕ, suc, true, List, [], ◌∷◌, map, length, refl, ap, sym, ◌∙◌, String, Option, None, Some, is_some, option_map, unwrap_or}
use Rattle.std.proofs.lemmas.Bool.{false≢true}
use Rattle.std.proofs.lemmas.List.{length-map}
use Rattle.std.specs.declared.alloc.Global.{Global}
use Rattle.serde_json.specs.Data.{Data}
use Rattle.serde_json.specs.Find.{get, as_array, as_str}
use Rattle.serde_json.specs.View.{view, members_of, members_view, items_of, items_view}
use Rattle.serde_json.specs.declared.value.Value.{Value}
use Rattle.mls_start_text.specs.Each.{having, each_of}
use Rattle.mls_start_text.specs.Views.{text_view}
use Rattle.mls_start_text.specs.Looking.{count_of, list_of, list_at}

count_mapped : (ms : List (String Global × Data)) → count_of (members_of ms) ≡ length ms
count_mapped [] = refl
count_mapped (m ∷ ms) = ap suc (count_mapped ms)

-- the members of an object are as many as its entries
pub count_of_members : (es : List (String Global × Value)) → count_of (members_view es) ≡ length es
count_of_members es = count_mapped (map (λ m. (m.0, view m.1)) es) ∙ length-map es (λ m. (m.0, view m.1))

-- the values of a list are those that it was made of
pub list_of_items : (ds : List Data) → list_of (items_of ds) ≡ ds
list_of_items [] = refl
list_of_items (d ∷ ds) = ap (λ more. d ∷ more) (list_of_items ds)

-- the list in a member that was found
pub list_found : (key : List ℕ) (d e : Data) (vs : List Value) → Some e ≡ get key d → Some (items_view vs) ≡ as_array e → Some (map view vs) ≡ list_at key d
list_found key d e vs found list =
    sym (ap (λ o. option_map list_of (having o as_array)) (sym found) ∙ ap (option_map list_of) (sym list) ∙ ap (λ ds. Some ds) (list_of_items (map view vs)))

texts_step : (o : Option (List ℕ)) (p : Option (List (List ℕ))) (ts : List (List ℕ)) → (is_some p ≡ true → p ≡ Some ts) → is_some (having o (λ t. having p (λ more. Some (t ∷ more)))) ≡ true → having o (λ t. having p (λ more. Some (t ∷ more))) ≡ Some (unwrap_or o [] ∷ ts)
texts_step None p ts others some = absurd (false≢true some)
texts_step (Some t) None ts others some = absurd (false≢true some)
texts_step (Some t) (Some more) ts others some = ap (λ q. having q (λ rest. Some (t ∷ rest))) (others refl)

-- of values that are all texts, the texts
pub texts_seen : (vs : List Value) → is_some (each_of as_str (map view vs)) ≡ true → each_of as_str (map view vs) ≡ Some (map text_view vs)
texts_seen [] some = refl
texts_seen (v ∷ vs) some = texts_step (as_str (view v)) (each_of as_str (map view vs)) (map text_view vs) (texts_seen vs) some
