-- Bytes that pass a test which ASCII bytes alone pass are ASCII: names and labels are.
use Rattle.std.proofs.Common.{◌≡◌, ℕ, zero, suc, ◌<◌, Bool, true, List, [], ◌∷◌, arith}
use Rattle.std.specs.Str.{IsAscii}
use Rattle.std.specs.List.{list_all}
use Rattle.std.proofs.lemmas.Bool.{and_parts}
use Rattle.std.proofs.lemmas.Bool.Decides.{nat_tests}
use Rattle.mls_labels.specs.Names.{is_name, is_name_byte}
use Rattle.mls_lines.specs.Labels.{is_label_byte}

ascii_by : (test : ℕ → Bool) → ((b : ℕ) → test b ≡ true → b < 128) → (bytes : List ℕ) → list_all test bytes ≡ true → IsAscii bytes
ascii_by test small [] h i = omega arith
ascii_by test small (b ∷ bytes) h zero = small b (and_parts (test b) (list_all test bytes) h).0
ascii_by test small (b ∷ bytes) h (suc i) = ascii_by test small bytes (and_parts (test b) (list_all test bytes) h).1 i

name_byte_small : (b : ℕ) → is_name_byte b ≡ true → b < 128
name_byte_small b h = grind (arith, nat_tests)

label_byte_small : (b : ℕ) → is_label_byte b ≡ true → b < 128
label_byte_small b h = grind (arith, nat_tests, h)

pub name_is_ascii : (bytes : List ℕ) → is_name bytes ≡ true → IsAscii bytes
name_is_ascii bytes h = ascii_by is_name_byte name_byte_small bytes (and_parts _ (list_all is_name_byte bytes) h).1

pub label_is_ascii : (bytes : List ℕ) → list_all is_label_byte bytes ≡ true → IsAscii bytes
label_is_ascii bytes h = ascii_by is_label_byte label_byte_small bytes h
