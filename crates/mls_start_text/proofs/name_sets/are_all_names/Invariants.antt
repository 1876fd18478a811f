use Rattle.std.proofs.Common.{◌≡◌, map, drop}
use Rattle.std.specs.List.{list_all}
use Rattle.mls_labels.specs.Names.{is_name}
use Rattle.mls_start_text.proofs.name_sets.are_all_names.Given as goal

-- it depends on what is left
abbrev pub invariant-loop-text : goal.invariant-loop-text
invariant-loop-text l = list_all is_name (map (λ text. text.now) l.texts) ≡ list_all is_name (map (λ text. text.now) (drop l.text-index l.texts))
