-- No two replies have one text.
use Rattle.std.proofs.Common.{◌≡◌, ℕ, true, false, List, get_or, refl, ap, arith}
use Rattle.std.specs.Prelude.{nat_eq, codes}
use Rattle.std.specs.Fmt.{decimal}
use Rattle.std.proofs.lemmas.Bool.Decides.{nat_tests}
use Rattle.std.proofs.lemmas.List.{append_cancel_left}
use Rattle.std.proofs.lemmas.Fmt.{decimal_injective}
use Rattle.mls_requests.specs.declared.reply.Reply.{Reply}
use Rattle.mls_requests.specs.declared.reply.Reply.TheVariants.{Yes, Created, No, Undefined}
use Rattle.mls_requests.specs.ReasonWords.{reason_word, all_reasons}
use Rattle.mls_requests.specs.ReplyWords.{reply_text, HasNumber}
use Rattle.mls_requests.proofs.WordTables.{words_apart, reason_reads}

-- texts that begin with different bytes are not one
apart : (X : Type 0) (s t : List ℕ) → nat_eq (get_or s 0 0) (get_or t 0 0) ≡ false → s ≡ t → X
apart X s t other e =
    let first : get_or s 0 0 ≡ get_or t 0 0 = ap (λ text. get_or text 0 0) e in
    let same : nat_eq (get_or s 0 0) (get_or t 0 0) ≡ true = grind (arith, nat_tests, first) in
    cc

pub one_text : (a b : Reply) → HasNumber a → HasNumber b → reply_text a ≡ reply_text b → a ≡ b
one_text Yes Yes x y e = refl
one_text Yes (Created p) x y e = apart (Yes ≡ Created p) (reply_text Yes) (reply_text (Created p)) refl e
one_text Yes (No s) x y e = apart (Yes ≡ No s) (reply_text Yes) (reply_text (No s)) refl e
one_text Yes Undefined x y e = apart (Yes ≡ Undefined) (reply_text Yes) (reply_text Undefined) refl e
one_text (Created o) Yes x y e = apart (Created o ≡ Yes) (reply_text (Created o)) (reply_text Yes) refl e
one_text (Created o) (Created p) x y e =
    let digits : decimal o ≡ decimal p = append_cancel_left (codes "created ") (decimal o) (decimal p) e in
    ap Created (decimal_injective o p (omega (arith, x)) (omega (arith, y)) digits)
one_text (Created o) (No s) x y e = apart (Created o ≡ No s) (reply_text (Created o)) (reply_text (No s)) refl e
one_text (Created o) Undefined x y e = apart (Created o ≡ Undefined) (reply_text (Created o)) (reply_text Undefined) refl e
one_text (No r) Yes x y e = apart (No r ≡ Yes) (reply_text (No r)) (reply_text Yes) refl e
one_text (No r) (Created p) x y e = apart (No r ≡ Created p) (reply_text (No r)) (reply_text (Created p)) refl e
one_text (No r) (No s) x y e = ap No (words_apart reason_word all_reasons reason_reads r s (append_cancel_left (codes "no ") (reason_word r) (reason_word s) e))
one_text (No r) Undefined x y e = apart (No r ≡ Undefined) (reply_text (No r)) (reply_text Undefined) refl e
one_text Undefined Yes x y e = apart (Undefined ≡ Yes) (reply_text Undefined) (reply_text Yes) refl e
one_text Undefined (Created p) x y e = apart (Undefined ≡ Created p) (reply_text Undefined) (reply_text (Created p)) refl e
one_text Undefined (No s) x y e = apart (Undefined ≡ No s) (reply_text Undefined) (reply_text (No s)) refl e
one_text Undefined Undefined x y e = refl
