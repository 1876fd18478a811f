-- Ways to places, one after the other.
use Rattle.std.proofs.Common.{◌≡◌, ◌||◌, ℕ, ◌+◌, Bool, true, false, List, [], ◌∷◌, ◌++◌, Some, None, length, refl, sym, ap, ◌∙◌, append-nil, arith}
use Rattle.std.proofs.Math.Bool.{or-false}
use Rattle.std.proofs.lemmas.Grind.{flat_map-append}
use Rattle.std.proofs.lemmas.List.{map-append}
use Rattle.std.proofs.lemmas.List.Elements.{All-nil, All-push}
use Rattle.std.proofs.lemmas.List.Folds.{list_any-append}
use Rattle.std.proofs.lemmas.List.FromFn.{map-range_with_len_more}
use Rattle.mls_lines.specs.Names.{Names}
use Rattle.mls_state.specs.State.{State}
use Rattle.mls_flows.specs.declared.place.Place.{Place}
use Rattle.mls_paths.specs.Found.{IsThere}
use Rattle.mls_paths.specs.Numbering.{place_of}
use Rattle.mls_paths.specs.Ways.{IsWayTo}
use Rattle.mls_paths.specs.declared.reached.Hop.{Hop}
use Rattle.mls_paths.specs.declared.reached.Reached.{Reached}
use Rattle.mls_rows.specs.Rows.{bytes_of, form_of}
use Rattle.mls_rows.specs.declared.form.Form.{Form}
use Rattle.mls_flow_text.specs.Routes.{has_row, route_bytes, way_bytes}
use Rattle.mls_flow_text.specs.Ways.{Way, IsFound, ways_bytes, any_row, AddsPlace, AreFound}
use Rattle.mls_flow_text.specs.declared.visiting.Written.{Written}

module _ (names : Names) (v : State) (from : ℕ) (found : List Reached) where
  module _ (p : Place) where
    -- a place that wasn't found has no row
    pub adds_none : (old : Written) → (IsThere found p → ⊥) → AddsPlace names v from found p old old
    adds_none old none = record {
      way = None;
      right = none;
      form = refl;
      bytes = sym (append-nil (bytes_of old.output));
      any = sym (or-false old.any);
    }

    -- nor has the one that has the content without a hand
    pub adds_first : (old : Written) (hops : List Hop) → IsWayTo found p hops → length hops ≡ 0 → AddsPlace names v from found p old old
    adds_first old [] way none = record {
      way = Some [];
      right = way;
      form = refl;
      bytes = sym (append-nil (bytes_of old.output));
      any = sym (or-false old.any);
    }
    adds_first old (hop ∷ hops) way none = absurd (omega (arith, none))

    or-true : (b : Bool) → (b || true) ≡ true
    or-true true = refl
    or-true false = refl

    -- each other one has one
    pub adds_row : (old new : Written) (hops : List Hop) → IsWayTo found p hops → (length hops ≡ 0 → ⊥) → form_of new.output ≡ form_of old.output
        → bytes_of new.output ≡ bytes_of old.output ++ route_bytes names (form_of old.output) v from p hops → new.any ≡ true
        → AddsPlace names v from found p old new
    adds_row old new [] way some form bytes any = absurd (some refl)
    adds_row old new (hop ∷ hops) way some form bytes any = record {
      way = Some (hop ∷ hops);
      right = way;
      form = form;
      bytes = bytes;
      any = any ∙ sym (or-true old.any);
    }

  module _ (form : Form) where
    -- no place yet
    pub no_ways : (new : Written) → form_of new.output ≡ form → bytes_of new.output ≡ [] → new.any ≡ false → AreFound names form v from found 0 new
    no_ways new is bytes any = record {
      ways = [];
      all = refl;
      each = All-nil (λ (w : Way). IsFound found w.0 w.1);
      in_form = is;
      bytes = bytes;
      any = any;
    }

    -- one place more
    pub more_ways : (n : ℕ) (old new : Written) → AreFound names form v from found n old → AddsPlace names v from found (place_of n) old new
        → AreFound names form v from found (n + 1) new
    more_ways n old new were adds = record {
      ways = were.ways ++ (place_of n, adds.way) ∷ [];
      all =
          map-append (λ (w : Way). w.0) were.ways ((place_of n, adds.way) ∷ [])
          ∙ ap (λ ps. ps ++ place_of n ∷ []) were.all
          ∙ sym (map-range_with_len_more place_of 0 n n (omega arith));
      each = All-push (λ (w : Way). IsFound found w.0 w.1) were.ways (place_of n, adds.way) were.each adds.right;
      in_form = adds.form ∙ were.in_form;
      bytes =
          adds.bytes
          ∙ (λ i. were.bytes i ++ way_bytes names (were.in_form i) v from (place_of n) adds.way)
          ∙ sym (flat_map-append row were.ways ((place_of n, adds.way) ∷ []) ∙ ap (λ t. ways_bytes names form v from were.ways ++ t) (append-nil (row (place_of n, adds.way))));
      any =
          adds.any
          ∙ ap (λ b. b || has_row adds.way) were.any
          ∙ sym (list_any-append (λ (w : Way). has_row w.1) were.ways ((place_of n, adds.way) ∷ []) ∙ ap (λ b. any_row were.ways || b) (or-false (has_row adds.way)));
    } where
      row : Way → List ℕ
      row w = way_bytes names form v from w.0 w.1
