use Rattle.std.proofs.Common.{◌≡◌, true, false, ◌++◌, length, rules, ap, ◌∙◌}
use Rattle.mls_durable.specs.Greeting.{names_text, ready_line}
use Rattle.mls_monitor.specs.Journal.{state_of}
use Rattle.mls_durable.proofs.Greetings.{greets_with, greets_without}
use Rattle.mls_durable.proofs.greeting.write_greeting.Goals as goal

pub returns-then-not-wanted : goal.returns-then-not-wanted
returns-then-not-wanted c =
    let not_so : c.args.wanted ≡ false = search rules in
    let many : c.next_number-next.result ≡ length c.args.monitor.now.entries = c.next_number-next.ensures.number in
    greets_without c.args.names.now c.args.monitor.now.start c.args.monitor.now.entries c.args.wanted _ not_so
    (c.in_ok-push_ready.ensures ∙ ap (λ t. t ++ ready_line c.next_number-next.result) c.new-text.ensures.bytes ∙ ap ready_line many)

pub returns : goal.returns
returns c =
    let so : c.args.wanted ≡ true = search rules in
    let many : c.next_number-next.result ≡ length c.args.monitor.now.entries = c.next_number-next.ensures.number in
    greets_with c.args.names.now c.args.monitor.now.start c.args.monitor.now.entries c.args.wanted _ so
    (c.in_ok-push_ready-2.ensures ∙ ap (λ t. t ++ ready_line c.next_number-next.result) (c.in_ok-push_names_of.ensures ∙ ap (λ t. t ++ names_text c.args.names.now (state_of c.args.monitor.now).accesses c.args.monitor.now.start.accesses) c.new-text.ensures.bytes)
    ∙ ap (λ n. names_text c.args.names.now (state_of c.args.monitor.now).accesses c.args.monitor.now.start.accesses ++ ready_line n) many)
