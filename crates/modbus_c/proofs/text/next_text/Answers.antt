use Rattle.std.proofs.Common.{◌≡◌, ◌+◌, [], ◌++◌, take, drop, sym, ap, ◌∙◌, subst, arith, length-take}
use Rattle.std.proofs.lemmas.List.{take_all, take_more}
use Rattle.modbus_ascii.specs.Decoder.{DecodesText}
use Rattle.modbus_ascii.specs.Frames.{frames}
use Rattle.modbus_ascii.specs.Text.{open_end}
use Rattle.modbus_c.proofs.Texts.{nothing_open, nothing_quiet, delivers_first, delivers_none, delivers_nothing}
use Rattle.modbus_c.proofs.text.next_text.Goals as goal

pub texts-init : goal.texts-init
texts-init c = record { within = omega arith; quiet = nothing_quiet; decodes = c.new-decoder.ensures; begins = sym nothing_open }

pub texts-preserved : goal.texts-preserved
texts-preserved c =
    let bytes = c.args.bytes.now in let place = c.texts.place in let taken = take place bytes in let now = c.texts.invariant in
    let more = take_more bytes place 0 c.texts-test.true in let decodes = c.feed.ensures.reads taken now.decodes in record {
      within = c.open_from-start.ensures.within;
      quiet = ap frames more ∙ c.in_default.ensures.gives taken now.decodes ∙ ap (λ f. f ++ []) now.quiet;
      decodes = subst (λ b. DecodesText b c.feed.new.self) (sym more) decodes;
      begins = subst (λ b. drop c.open_from-start.result b ≡ open_end b) (sym more)
          (c.open_from-start.ensures.begins taken (omega (arith, length-take place bytes, c.texts-test.true)) now.begins decodes);
    }

pub returns-in-Some : goal.returns-in-Some
returns-in-Some c =
    let bytes = c.args.bytes.now in let place = c.texts.place in let taken = take place bytes in let now = c.texts.invariant in
    delivers_first c.open_ends_grow.ensures.closes c.frames_go_on.ensures.closed bytes taken _ (place + 1) (record { header = c.in-Some.frame.slave; pdu = c.in-Some.frame.pdu.items }) now.quiet (c.in-Some.ensures.gives taken now.decodes)
    (take_more bytes place 0 c.texts-test.true) (omega (arith, c.texts-test.true))

pub returns-then-bytes-start-gt-MAX_FRAME : goal.returns-then-bytes-start-gt-MAX_FRAME
returns-then-bytes-start-gt-MAX_FRAME c =
    let bytes = c.args.bytes.now in let start = c.texts.start in let now = c.texts.invariant in
    let all = take_all c.texts.place bytes (omega (arith, c.texts-test.false)) in
    delivers_nothing c.frames_behind_open_ends.ensures.long bytes start (subst (λ b. frames b ≡ []) all now.quiet) (subst (λ b. drop start b ≡ open_end b) all now.begins)
    (omega (arith, c.if-bytes-start-gt-MAX_FRAME.true))

pub returns : goal.returns
returns c =
    let bytes = c.args.bytes.now in let start = c.texts.start in let now = c.texts.invariant in
    let all = take_all c.texts.place bytes (omega (arith, c.texts-test.false)) in
    delivers_none c.frames_behind_open_ends.ensures.behind bytes start (subst (λ b. frames b ≡ []) all now.quiet) (subst (λ b. drop start b ≡ open_end b) all now.begins)
    (omega (arith, now.within, c.texts.auto.place-end)) (omega (arith, c.if-bytes-start-gt-MAX_FRAME.false))
