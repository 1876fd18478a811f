-- The spans between turns, one turn more at a time.
use Rattle.std.proofs.Common.{◌≡◌, ℕ, ◌+◌, ◌<◌, true, false, cond, List, [], ◌∷◌, ◌++◌, length, take, get_or, map, Option, Some, None, sym, ap, subst, ◌∙◌, append-nil}
use Rattle.std.specs.Prelude.{filter}
use Rattle.std.proofs.lemmas.List.{map-append, take_more}
use Rattle.std.proofs.lemmas.List.Elements.{filter-append}
use Rattle.mls_tables.specs.Triples.{Triple}
use Rattle.mls_spans.specs.Asked.{has_window}
use Rattle.mls_spans.specs.Turning.{Pairs, is_turn_of, turns_of}
use Rattle.mls_spans.specs.Windows.{between}
use Rattle.mls_spans.specs.declared.states.States.{States}
use Rattle.mls_spans.specs.declared.turn.Turn.{Turn}
use Rattle.mls_spans.specs.declared.window.Window.{Window}

module _ (states : States) where
  abbrev seen : List (Option ℕ) → List Window
  seen places = filter (has_window states) (between places)

  -- all spans, where none is open
  pub pairs_none : (places : List (Option ℕ)) (found : List Window) → Pairs states places found None → found ≡ seen places
  pairs_none places found so_far = sym (ap seen (sym (append-nil places)) ∙ so_far [] ∙ append-nil found)

  -- all spans, with the one that is open
  pub pairs_last : (places : List (Option ℕ)) (found new : List Window) (first : Turn)
      → new ≡ found ++ filter (has_window states) ((record { opened = first.number; closed = None }) ∷ [])
      → Pairs states places found (Some first) → new ≡ seen places
  pairs_last places found new first is so_far = is ∙ sym (ap seen (sym (append-nil places)) ∙ so_far [])

  -- a turn of another access adds nothing; one of the access its place
  pub pairs_same : (places : List (Option ℕ)) (turn : Turn) (t : Triple) (found : List Window) (opened : Option Turn) → is_turn_of t turn ≡ false
      → Pairs states places found opened → Pairs states (places ++ turns_of (turn ∷ []) t) found opened
  pairs_same places turn t found opened is so_far =
      let one : places ++ turns_of (turn ∷ []) t ≡ places =
      ap (λ b. places ++ map (λ (u : Turn). u.number) (cond b (turn ∷ []) [])) is ∙ append-nil places in
      subst (λ l. Pairs states l found opened) (sym one) so_far

  -- the turns of a list with one more
  pub pairs_more : (turns : List Turn) (n : ℕ) (turn : Turn) (t : Triple) (found : List Window) (opened : Option Turn) → n < length turns
      → turn ≡ get_or turns n turn → Pairs states (turns_of (take n turns) t ++ turns_of (turn ∷ []) t) found opened
      → Pairs states (turns_of (take (n + 1) turns) t) found opened
  pairs_more turns n turn t found opened within at so_far =
      let one : turns_of (take (n + 1) turns) t ≡ turns_of (take n turns) t ++ turns_of (turn ∷ []) t =
      ap (λ l. turns_of l t) (take_more turns n turn within ∙ ap (λ k. take n turns ++ k ∷ []) (sym at))
      ∙ ap (map (λ (u : Turn). u.number)) (filter-append (is_turn_of t) (take n turns) (turn ∷ []))
      ∙ map-append (λ (u : Turn). u.number) (filter (is_turn_of t) (take n turns)) (filter (is_turn_of t) (turn ∷ [])) in
      subst (λ l. Pairs states l found opened) (sym one) so_far

-- the place of one turn of an access
pub one_turn : (turn : Turn) (t : Triple) → is_turn_of t turn ≡ true → turns_of (turn ∷ []) t ≡ turn.number ∷ []
one_turn turn t is = ap (λ b. map (λ (u : Turn). u.number) (cond b (turn ∷ []) [])) is
