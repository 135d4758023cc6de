use Rattle.std.proofs.Common.{◌≡◌, arith}
use Rattle.aia_io.specs.declared.limits.TheConstants.{PIECE_BYTES}
use Rattle.aia_io.specs.declared.source.Read.TheVariants.{Got}
use Rattle.aia_io.specs.Ends.{ReadsFront}
use Rattle.aia_io.specs.Taken.{ReadsOn}
use Rattle.aia_io.proofs.PieceLemmas.{one_read, reads_more}
use Rattle.aia_io.proofs.reading.read_piece.Goals as goal

pub returns-in-Got-clause-bytes : goal.returns-in-Got-clause-bytes
returns-in-Got-clause-bytes g c =
    let n = c.in-Got.field-0 in
    let one : n ≡ 1 = omega (arith, c.in-Got.ensures.bytes.0, c.in-Got.ensures.bytes.1, c.clamp-most.ensures, c.if-taken-eq-SOURCE_BYTES.true) in
    let old = g.S.Source.supply c.args.source.now in
    let new = g.S.Source.supply c.read_front.new.source in
    one_read (λ read. ReadsFront PIECE_BYTES old new c.read_front.new.piece read) n one
    (reads_more c.clamp-most.result PIECE_BYTES old new c.read_front.new.piece (Got n) (omega (arith, c.clamp-most.ensures)) c.in-Got.ensures.bytes)

pub returns-in-Got-clause-taken : goal.returns-in-Got-clause-taken
returns-in-Got-clause-taken g c =
    let n = c.in-Got.field-0 in
    let one : n ≡ 1 = omega (arith, c.in-Got.ensures.bytes.0, c.in-Got.ensures.bytes.1, c.clamp-most.ensures, c.if-taken-eq-SOURCE_BYTES.true) in
    one_read (λ read. ReadsOn (g.S.Source.supply c.args.source.now) (g.S.Source.supply c.read_front.new.source) c.read_front.new.piece read) n one
    c.in-Got.ensures.taken
