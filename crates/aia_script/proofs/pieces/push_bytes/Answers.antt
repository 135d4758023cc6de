use Rattle.std.proofs.Common.{refl, arith}
use Rattle.aia_script.proofs.DigitLemmas.{byte_pushed, digits_done}
use Rattle.aia_script.proofs.pieces.push_bytes.Goals as goal

pub loop-place-preserved : goal.loop-place-preserved
loop-place-preserved g c = record {
  text = byte_pushed c.push.new.self.items c.push-in-loop-place.new.self.items c.loop-place.out.items _ c.digit_pair-high.result.0
      c.digit_pair-high.result.1 _ c.loop-place.place c.args.value (omega arith) c.push.ensures.items c.push-in-loop-place.ensures.items refl
      c.digit_pair-high.ensures.high c.digit_pair-high.ensures.low c.loop-place.invariant.text;
  few = omega arith;
  room = omega arith;
}

pub returns-clause-text : goal.returns-clause-text
returns-clause-text g c = digits_done c.loop-place.out.items _ c.loop-place.place c.args.value (omega arith) c.loop-place.invariant.text
