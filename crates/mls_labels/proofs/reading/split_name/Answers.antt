use Rattle.std.proofs.Common.{ap, ◌∙◌, take, drop}
use Rattle.std.specs.List.{prefix_len}
use Rattle.mls_labels.specs.Names.{is_name_byte}
use Rattle.mls_labels.proofs.LabelForms.{front_of-take, rest_of-drop}
use Rattle.mls_labels.proofs.TextParts.{is_name-front_of, front_boundary}
use Rattle.mls_labels.proofs.reading.split_name.Goals as goal

pub split_at-requires : goal.split_at-requires
split_at-requires c = front_boundary c.args.text.now c.front_len-len.result c.is_name_len.result c.utf8.text (c.front_len-len.ensures ∙ ap (prefix_len is_name_byte) c.as_bytes.ensures.value) c.is_name_len.ensures c.if-is_name_len.true

pub returns-then-is_name_len-clause-named : goal.returns-then-is_name_len-clause-named
returns-then-is_name_len-clause-named c =
    is_name-front_of c.args.text.now c.front_len-len.result c.is_name_len.result (c.front_len-len.ensures ∙ ap (prefix_len is_name_byte) c.as_bytes.ensures.value) c.is_name_len.ensures ∙ c.if-is_name_len.true

pub returns-then-is_name_len-clause-name : goal.returns-then-is_name_len-clause-name
returns-then-is_name_len-clause-name c =
    c.split_at.ensures.front ∙ ap (λ n. take n c.args.text.now) (c.front_len-len.ensures ∙ ap (prefix_len is_name_byte) c.as_bytes.ensures.value) ∙ front_of-take c.args.text.now

pub returns-then-is_name_len-clause-rest : goal.returns-then-is_name_len-clause-rest
returns-then-is_name_len-clause-rest c =
    c.split_at.ensures.back ∙ ap (λ n. drop n c.args.text.now) (c.front_len-len.ensures ∙ ap (prefix_len is_name_byte) c.as_bytes.ensures.value) ∙ rest_of-drop c.args.text.now

pub returns-else-is_name_len-clause-none : goal.returns-else-is_name_len-clause-none
returns-else-is_name_len-clause-none c =
    is_name-front_of c.args.text.now c.front_len-len.result c.is_name_len.result (c.front_len-len.ensures ∙ ap (prefix_len is_name_byte) c.as_bytes.ensures.value) c.is_name_len.ensures ∙ c.if-is_name_len.false
