-- How requests that two starts answer otherwise are counted, by subject and replies and by reason.
use Rattle.std.specs.Prelude.{ℕ, Bool, ◌&&◌, ◌==◌, List, [], ◌∷◌, ◌++◌, codes, filter, length, if◌then◌else◌}
use Rattle.std.specs.Fmt.{decimal}
use Rattle.std.specs.List.{flat_map, range_with_len}
use Rattle.json.specs.Token.{Token}
use Rattle.mls_lines.specs.Names.{Names}
use Rattle.mls_requests.specs.ReasonWords.{reason_word}
use Rattle.mls_requests.specs.ReplyWords.{reply_word, word_of_reply}
use Rattle.mls_requests.specs.declared.reason.Reason.{Reason}
use Rattle.mls_requests.specs.declared.reason.Reason.TheVariants.{Discretionary, Simple, Star, Integrity, Authority}
use Rattle.mls_requests.specs.declared.reason.Reason.TheVariants.{Compatibility, Ceiling, Root, Full}
use Rattle.mls_requests.specs.declared.reply.Reply.TheVariants as reply
use Rattle.mls_requests.specs.declared.reply_word.ReplyWord.{ReplyWord}
use Rattle.mls_requests.specs.declared.reply_word.ReplyWord.TheVariants.{Yes, Created, No, Undefined}
use Rattle.mls_rows.specs.Members.{number_member, subject_member, text_member}
use Rattle.mls_rows.specs.Rows.{row_bytes}
use Rattle.mls_rows.specs.declared.form.Form.{Form}
use Rattle.mls_tables.specs.declared.limits.TheConstants.{MAX_SUBJECTS}
use Rattle.mls_wording.specs.Wording.{subject_text}
use Rattle.mls_differences.specs.Replying.{agree}
use Rattle.mls_differences.specs.declared.case.Case.{Case}
use Rattle.mls_differences.specs.declared.count.Count.{Count}
use Rattle.mls_differences.specs.declared.count.Count.TheVariants.{Changes, Gets, Entries, Pair, Denied}

-- The place of a reply's first word in the order of replies. (own)
abbrev pub word_place : ReplyWord → ℕ
word_place Yes = 0
word_place Created = 1
word_place No = 2
word_place Undefined = 3

-- A request is a subject's. (own)
abbrev pub is_by : ℕ → Case → Bool
is_by s c = c.subject == s

-- The replies to a request have these first words. (own)
abbrev pub is_pair : ReplyWord → ReplyWord → Case → Bool
is_pair a b c =
    word_place (word_of_reply c.first) == word_place a && word_place (word_of_reply c.second) == word_place b

-- How many requests have replies with these first words. (own)
abbrev pub pair_count : List Case → ReplyWord → ReplyWord → ℕ
pair_count cases a b = length (filter (is_pair a b) cases)

-- The second start denies a request for this reason. (own)
abbrev pub is_denied_for : Reason → Case → Bool
is_denied_for reason c = agree (reply.No reason) c.second

-- How many requests the second start denies for a reason. (own)
abbrev pub denied_count : List Case → Reason → ℕ
denied_count cases reason = length (filter (is_denied_for reason) cases)

-- The row of a subject and two replies; none where there is nothing to count. (own)
abbrev pub pair_row : ℕ → ReplyWord → ReplyWord → ℕ → List Count
pair_row s a b n = if n == 0 then [] else Pair s a b n ∷ []

-- The row of a reason; none where there is nothing to count. (own)
abbrev pub denied_row : Reason → ℕ → List Count
denied_row reason n = if n == 0 then [] else Denied reason n ∷ []

-- The rows of a subject and a first reply, by the second reply, of the subject's requests. (own)
abbrev pub second_rows : List Case → ℕ → ReplyWord → List Count
second_rows mine s a =
    pair_row s a Yes (pair_count mine a Yes) ++ pair_row s a Created (pair_count mine a Created)
    ++ pair_row s a No (pair_count mine a No) ++ pair_row s a Undefined (pair_count mine a Undefined)

-- The rows of a subject, by the first reply, of its requests. (own)
abbrev pub first_rows : List Case → ℕ → List Count
first_rows mine s =
    second_rows mine s Yes ++ second_rows mine s Created ++ second_rows mine s No ++ second_rows mine s Undefined

-- The rows of a subject. (own)
abbrev pub subject_counts : List Case → ℕ → List Count
subject_counts cases s = first_rows (filter (is_by s) cases) s

-- The rows of the subjects below a number, by number. (own)
unfoldable pub counts_below : List Case → ℕ → List Count
counts_below cases n = flat_map (subject_counts cases) (range_with_len 0 n)

-- The rows of the reasons for which the second start denies, in their order. (own)
abbrev pub reason_counts : List Case → List Count
reason_counts cases =
    denied_row Discretionary (denied_count cases Discretionary) ++ denied_row Simple (denied_count cases Simple)
    ++ denied_row Star (denied_count cases Star) ++ denied_row Integrity (denied_count cases Integrity)
    ++ denied_row Authority (denied_count cases Authority)
    ++ denied_row Compatibility (denied_count cases Compatibility) ++ denied_row Ceiling (denied_count cases Ceiling)
    ++ denied_row Root (denied_count cases Root) ++ denied_row Full (denied_count cases Full)

-- The rows of requests: by subject and replies, and by reason. (own)
abbrev pub counts : List Case → List Count
counts cases = counts_below cases MAX_SUBJECTS ++ reason_counts cases

-- A line of a word and a number. (own)
abbrev pub number_line : List ℕ → ℕ → List ℕ
number_line word n = word ++ 32 ∷ decimal n ++ 10 ∷ []

-- The line of a row. (own)
abbrev pub count_line : Names → Count → List ℕ
count_line names (Changes n) = number_line (codes "changes") n
count_line names (Gets n) = number_line (codes "gets") n
count_line names (Entries n) = number_line (codes "entries") n
count_line names (Pair s a b n) =
    subject_text names s ++ 32 ∷ reply_word a ++ codes " > " ++ number_line (reply_word b) n
count_line names (Denied reason n) = codes "no " ++ number_line (reason_word reason) n

-- The members of two replies' first words. (own)
abbrev pub words_members : ReplyWord → ReplyWord → List Token
words_members a b = text_member (codes "first") (reply_word a) ++ text_member (codes "second") (reply_word b)

-- The members of a row. (own)
abbrev pub count_members : Names → Count → List Token
count_members names (Changes n) = number_member (codes "changes") n
count_members names (Gets n) = number_member (codes "gets") n
count_members names (Entries n) = number_member (codes "entries") n
count_members names (Pair s a b n) =
    subject_member (codes "subject") (codes "subject_name") names s ++ words_members a b
    ++ number_member (codes "count") n
count_members names (Denied reason n) =
    text_member (codes "reason") (reason_word reason) ++ number_member (codes "count") n

-- A row in a form: its line, or its object in a line. (own)
abbrev pub count_bytes : Form → Names → Count → List ℕ
count_bytes form names row = row_bytes form (count_line names row) (count_members names row)

-- Rows in a form. (own)
abbrev pub counts_bytes : Form → Names → List Count → List ℕ
counts_bytes form names rows = flat_map (count_bytes form names) rows
