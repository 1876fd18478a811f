use Rattle.std.specs.Prelude.{◌≡◌, ◌<◌, ◌++◌, true, length, map, nat_lt, string_bytes}
use Rattle.std.specs.List.{list_all}
use Rattle.mls_labels.specs.Ascending.{ascending}
use Rattle.mls_labels.specs.LabelText.{Extends, name_at, words_after}
use Rattle.mls_labels.proofs.writing.push_categories.Given as goal

-- what has been written, with what is left, is all
abbrev pub invariant-loop-n : goal.invariant-loop-n
invariant-loop-n g l =
    record {
      told : string_bytes l.text ++ words_after l.separator (map (name_at l.names) (ascending l.rest)) ≡ string_bytes l.fn.text ++ words_after 58 (map (name_at l.names) (ascending l.fn.categories));
      grown : Extends (string_bytes l.fn.text) (string_bytes l.text);
      named : list_all (λ n. nat_lt n (length l.names)) (ascending l.rest) ≡ true;
      ascii : l.separator < 128;
    }

abbrev pub decreases-loop-n : goal.decreases-loop-n
decreases-loop-n g l = length (ascending l.rest)
