use borrow.Author.Tests.{tests}
use Rattle.std.proofs.Common.{◌≡◌, Err, sym, ap, ◌∙◌, rules, length}
use Rattle.std.proofs.lemmas.List.{length_push}
use Rattle.scenario.specs.Scenarios.{finished}
use Rattle.scenario.specs.Wholes.{scenario_model}
use Rattle.words.specs.Words.{lines}
use Rattle.scenario.proofs.Ends.{YieldsList-from_lines}
use Rattle.scenario.proofs.Refusals.{names_first}
use Rattle.scenario.proofs.Tellings.{tells}
use Rattle.scenario.proofs.Turns.{all_read, next_read, next_line, refused}
use Rattle.scenario.proofs.whole.read_scenario.Goals as goal

pub loop-i-preserved : goal.loop-i-preserved
loop-i-preserved c =
    let text = c.args.text.now in
    let road = YieldsList-from_lines _ text (cc) (cc) (cc) (cc) (λ x r q k. search (rules, tests)) in
    let next = next_line text road c.loop-i.yielded _ c.loop-i.yielded_by _ _ _ c.in-Some.is c.next.ensures.steps in
    let more = next_read (lines text) (length c.loop-i.yielded) c.in-Some.i c.in-Some.line.now c.loop-i.reader next c.read_line.new.self (search rules) in
    rw (length_push c.loop-i.yielded (c.in-Some.i, c.in-Some.line)) (sym more ∙ c.loop-i.invariant)

pub returns-in_err-map_err-clause-reads : goal.returns-in_err-map_err-clause-reads
returns-in_err-map_err-clause-reads c =
    let text = c.args.text.now in
    let road = YieldsList-from_lines _ text (cc) (cc) (cc) (cc) (λ x r q k. search (rules, tests)) in
    let next = next_line text road c.loop-i.yielded _ c.loop-i.yielded_by _ _ _ c.in-Some.is c.next.ensures.steps in
    let told = refused text (length c.loop-i.yielded) c.in-Some.i c.in-Some.line.now c.loop-i.reader c.read_line.new.self next c.loop-i.invariant _ c.read_line.result c.map_err.result c.in_err-map_err.field-0.0 c.read_line.ensures c.map_err.ensures.cases c.in_err-map_err.was (λ e p. search rules) in
    let given : c.from_residual.result ≡ Err c.in_err-map_err.field-0.0 = search rules in
    rw given told

pub returns-in_err-map_err-clause-first : goal.returns-in_err-map_err-clause-first
returns-in_err-map_err-clause-first c = names_first _ c.args.text.now (returns-in_err-map_err-clause-reads c)

pub returns : goal.returns
returns c =
    let text = c.args.text.now in
    let road = YieldsList-from_lines _ text (cc) (cc) (cc) (cc) (λ x r q k. search (rules, tests)) in
    let read = all_read text road c.loop-i.yielded _ c.loop-i.yielded_by _ _ c.loop-i.reader c.in-None.is c.next.ensures.steps in
    let told = ap finished (sym c.loop-i.invariant ∙ read) ∙ sym c.finish.ensures in
    record { reads = told; first = tt; tells = tells text (scenario_model c.finish.result) told }
