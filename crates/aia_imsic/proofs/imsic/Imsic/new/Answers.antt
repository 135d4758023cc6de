use Rattle.std.proofs.Common.{arith}
use Rattle.std.proofs.lemmas.List.Elements.{All-get_or}
use Rattle.aia_file.specs.InterruptFile.{SameFile, empty_file}
use Rattle.aia_file.specs.FileState.{FileState, shown}
use Rattle.aia_file.specs.Imsic.{ImsicState, place_of, no_file}
use Rattle.aia_file.proofs.PlaceLemmas.{place_within}
use Rattle.aia_imsic.proofs.imsic.Imsic.new.Goals as goal

pub returns-clause-empty : goal.returns-clause-empty
returns-clause-empty c =
    let made : ImsicState = record { harts = c.args.harts; guests = c.args.guests; files = c.in_ok-files.files.items } in
    record {
      each = λ spot there. All-get_or (λ (f : FileState). SameFile (shown f) (empty_file c.args.n)) made.files (place_of made spot) no_file
          (omega (arith, place_within made spot there, c.in_ok-files.ensures.length)) c.in_ok-files.ensures.empty;
    }
