use Rattle.std.proofs.Common.{◌≡◌, ℕ, ◌&&◌, true, sym, ap, ◌∙◌, arith}
use Rattle.std.specs.Int.{is_in_range}
use Rattle.std.proofs.lemmas.Bool.{and_right}
use Rattle.aia_file.specs.InterruptFile.{signals}
use Rattle.aia_file.specs.FileState.{FileState, shown}
use Rattle.aia_file.specs.declared.spot.Spot.TheVariants.{GuestFile}
use Rattle.aia_file.specs.Imsic.{file_at}
use Rattle.aia_imsic.proofs.SignalLemmas.{in_range, bit_put, bit_left}
use Rattle.aia_imsic.proofs.imsic.Imsic.hgeip.Goals as goal
use Rattle.aia_imsic.proofs.imsic.Imsic.hgeip.Goals.{then-signal, else-signal}

pub loop-file-preserved : goal.loop-file-preserved
loop-file-preserved c =
    let all = c.args.self.now in
    let members = λ (j : ℕ). is_in_range 1 all.guests j && signals (shown (file_at all (GuestFile c.args.hart j))) in
    let same = c.signal.ensures ∙ ap (λ (f : FileState). signals (shown f)) c.file.ensures in
    let guests = ap (λ h. h.guests) c.self.view_is in
    let here : is_in_range 1 all.guests c.loop-file.file ≡ true = in_range all.guests c.loop-file.file (omega arith) (omega arith) in
    elim c.if-signal.branch [
      | then-signal w ↦ rw w.bits-is (bit_put c.loop-file.bits c.loop-file.file members (omega arith)
          (ap (λ b. b && signals (shown (file_at all (GuestFile c.args.hart c.loop-file.file)))) here ∙ sym same ∙ w.if-signal.true)
          c.loop-file.invariant)
      | else-signal w ↦ rw w.bits-is (bit_left c.loop-file.bits c.loop-file.file members (and_right _ _ (sym same ∙ w.if-signal.false))
          c.loop-file.invariant)
    ]
