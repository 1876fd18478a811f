use Rattle.std.proofs.Common.{◌≡◌, ◌<◌, ◌++◌, length, map, string_bytes}
use Rattle.mls_labels.specs.Ascending.{ascending}
use Rattle.mls_labels.specs.LabelText.{Extends, words_after}
use Rattle.mls_wording.specs.Wording.{numbered}
use Rattle.mls_wording.proofs.label.push_categories.Given as goal

-- what has been written, with what is left, is all
abbrev pub invariant-loop-number : goal.invariant-loop-number
invariant-loop-number l =
    record {
      told : string_bytes l.text ++ words_after l.separator (map numbered (ascending l.rest)) ≡ string_bytes l.fn.text ++ words_after 58 (map numbered (ascending l.fn.categories));
      grown : Extends (string_bytes l.fn.text) (string_bytes l.text);
      ascii : l.separator < 128;
    }

abbrev pub decreases-loop-number : goal.decreases-loop-number
decreases-loop-number l = length (ascending l.rest)
