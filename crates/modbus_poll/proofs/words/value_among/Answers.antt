use Rattle.std.proofs.Common.{◌≡◌, ℕ, true, List, [], length, get_or, ◌∙◌, sym, ap, subst}
use Rattle.modbus_poll.specs.declared.read.Read.{Read}
use Rattle.modbus_poll.specs.Items.{lies_in}
use Rattle.modbus_poll.specs.Values.{value}
use Rattle.modbus_poll.specs.Words.{words_of_read, words_of_item}
use Rattle.modbus_poll.proofs.Ordered.{ok_more}
use Rattle.modbus_poll.proofs.WordsAt.{words_at, some_read}
use Rattle.modbus_poll.proofs.words.value_among.Goals as goal

pub words_at-requires : goal.words_at-requires
words_at-requires c =
    let at = words_at c.args.plan.now c.args.found.now c.args.item.now c.in-Some.place c.requires.words (sym c.read_of.ensures ∙ c.in-Some.is) in
    at.gave

pub words_in-words-requires-clause-lies : goal.words_in-words-requires-clause-lies
words_in-words-requires-clause-lies c =
    let at = words_at c.args.plan.now c.args.found.now c.args.item.now c.in-Some.place c.requires.words (sym c.read_of.ensures ∙ c.in-Some.is) in
    let some : Read = record { address = 0; count = 0 } in
    subst (λ (reads : List Read). lies_in c.args.item.now (get_or reads c.in-Some.place some) ≡ true) (sym c.reads.ensures) (at.lies some)

pub words_in-words-requires-clause-count : goal.words_in-words-requires-clause-count
words_in-words-requires-clause-count c =
    let at = words_at c.args.plan.now c.args.found.now c.args.item.now c.in-Some.place c.requires.words (sym c.read_of.ensures ∙ c.in-Some.is) in
    let some : Read = record { address = 0; count = 0 } in
    let same : (get_or c.reads.result.now c.in-Some.place some).count ≡ (get_or c.args.plan.now c.in-Some.place some).count =
    ap (λ (reads : List Read). (get_or reads c.in-Some.place some).count) c.reads.ensures in
    ap length c.words_at.ensures ∙ at.count some [] ∙ sym same

pub unreachable-requires : goal.unreachable-requires
unreachable-requires c = some_read c.args.plan.now c.args.item.now c.requires.given (sym c.read_of.ensures ∙ c.in-None.is)

pub returns : goal.returns
returns c =
    let at = words_at c.args.plan.now c.args.found.now c.args.item.now c.in-Some.place c.requires.words (sym c.read_of.ensures ∙ c.in-Some.is) in
    let some : Read = record { address = 0; count = 0 } in
    let read : words_of_read (get_or c.reads.result.now c.in-Some.place some) c.words_at.result.now c.args.item.now
    ≡ words_of_read (get_or c.args.plan.now c.in-Some.place some) c.words_at.result.now c.args.item.now =
    ap (λ (reads : List Read). words_of_read (get_or reads c.in-Some.place some) c.words_at.result.now c.args.item.now) c.reads.ensures in
    let gave : words_of_read (get_or c.args.plan.now c.in-Some.place some) c.words_at.result.now c.args.item.now
    ≡ words_of_read (get_or c.args.plan.now c.in-Some.place some) (get_or c.args.found.now c.in-Some.place []) c.args.item.now =
    ap (λ (words : List ℕ). words_of_read (get_or c.args.plan.now c.in-Some.place some) words c.args.item.now) c.words_at.ensures in
    let words : c.words_in-words.result.now ≡ words_of_item c.args.plan.now c.args.found.now c.args.item.now =
    c.words_in-words.ensures.words ∙ read ∙ gave ∙ sym (at.words some []) in
    ok_more _ _ (λ v e. e ∙ ap (value c.args.item.now.kind) words) c.value_of.result c.value_of.ensures.value
