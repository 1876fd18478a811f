use Rattle.std.proofs.Common.{◌≡◌, ◌<◌, ◌++◌, drop, map, string_bytes}
use Rattle.std.specs.Prelude.{filter}
use Rattle.mls_labels.specs.LabelText.{words_after}
use Rattle.mls_differences.specs.Counterparts.{is_among}
use Rattle.mls_differences.specs.Sides.{common_text}
use Rattle.mls_differences.proofs.levels.push_common.Given as goal

-- what is written and what is left to write is all
abbrev pub invariant-loop-name : goal.invariant-loop-name
invariant-loop-name l = record {
  told : string_bytes l.text ++ words_after l.separator (filter (is_among (map string_bytes l.others)) (map string_bytes (drop l.name-index l.names)))
      ≡ string_bytes l.fn.text ++ common_text (map string_bytes l.names) (map string_bytes l.others);
  ascii : l.separator < 128;
}
