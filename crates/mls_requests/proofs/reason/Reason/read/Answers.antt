use Rattle.std.proofs.Common.{◌≡◌, option_map, rules, tests}
use Rattle.std.specs.Str.{bytes_eq}
use Rattle.std.specs.List.{find}
use Rattle.std.proofs.lemmas.Iterator.{YieldsList-from_slice}
use Rattle.std.proofs.lemmas.Iterator.Search.{find_from_yields_List}
use Rattle.mls_requests.specs.ReasonWords.{reason_word, all_reasons}
use Rattle.mls_requests.proofs.reason.Reason.read.Goals as goal

pub returns : goal.returns
returns c =
    let found : option_map (λ x. x.now) c.find.result ≡ find (λ x. bytes_eq c.args.word.now (reason_word x)) all_reasons =
    find_from_yields_List (λ x. bytes_eq c.args.word.now (reason_word x)) _ _ _ c.find.ensures.ran (YieldsList-from_slice all_reasons (search rules)) (λ x b q k. search (rules, tests)) in
    search (rules, found)
