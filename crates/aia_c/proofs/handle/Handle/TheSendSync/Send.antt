-- A slot may cross threads: its engine may, and its block may be freed anywhere.
use mir.Raw.{raw}
use base.Shift.{Keyless}
use denote.Memory.{lone}
use denote.RattleType.{RattleType}
use denote.RawPtr.{Ptr, block_ptr, null_ptr, lies_at}
use denote.Builtin.{RawPtr}
use base.Fraction.{full_share}
use denote.Exit.{Exit, unchanged, leaves, hidden, under}
use denote.Param.Send.{IsSend, Quiet, part_keyless, owning_send, struct_send, sendable}
use denote.Struct.Struct.{exits_of}
use denote.Struct.Owning.{shape, fields, to}
use Rattle.std.specs.declared.option.Option.{Option}
use Rattle.std.specs.declared.option.Option.TheVariants.{None, Some}
use Rattle.std.proofs.Crossing.{frees}
use Rattle.aia_replay.specs.Stands.{EngineState}
use Rattle.aia_replay.proofs.engine.Engine.TheSendSync as sent
use Rattle.aia_replay.specs.contracts.engine.Engine as engine
use Rattle.aia_c.specs.Ownership.{handle_owns}
use Rattle.aia_c.specs.contracts.handle.Handle.{the_row, the_type}

quiet : {D X : Type 0} (to : D → X) (e : Exit X) → Quiet e → Quiet (hidden (under to e))
quiet to unchanged q = λ x w. tt
quiet to (leaves L l S s r₀) q = λ d. q (to d)

lies : (R : RattleType) → IsSend R → (p : Ptr) (x : R.Denot) → Keyless (lies_at R full_share p x)
lies R s (block_ptr b o) x = part_keyless R s full_share x b o
lies R s null_ptr x = tt

ps : IsSend RawPtr
ps = search sendable

held : IsSend engine.the_row
held = sent.the_send

keyless : (p : Ptr) (k : Option EngineState) → Keyless (handle_owns p k)
keyless p None = λ _. tt
keyless p (Some c) = λ heap. (lies engine.the_row held p c, frees.frees heap (raw (lone (engine.the_row).mir)) p)

pub send : IsSend the_row
send = owning_send the_type (ps, tt) (λ d. keyless d.at d.engine)
    (λ k. quiet (to the_type) (exits_of k (fields the_type)) ((struct_send (shape the_type) (ps, tt)).leaving k))
