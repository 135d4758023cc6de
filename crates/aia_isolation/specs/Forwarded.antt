-- What a line forwards to a virtual hart, and what may become pending there.
use Rattle.std.specs.Prelude.{◌≡◌, ◌⊎◌, ℕ, true, Some}
use Rattle.std.specs.List.{Contains}
use Rattle.aia_vcpu.specs.Vms.{Vcpu}
use Rattle.aia_model.specs.declared.line.Line.{Line}
use Rattle.aia_model.specs.declared.msi.Msi.{Msi}
use Rattle.aia_model.specs.Move.{line_deed}
use Rattle.aia_model.specs.Event.{History}
use Rattle.aia_model.specs.Passes.{nth_pass, passed_by}
use Rattle.aia_model.specs.Sent.{msis_sent_by}
use Rattle.aia_laws.specs.Requests.{steps_vm, lands_all, asks_in_flight, Asks}

-- Within a line an MSI is sent of a source that is passed to a virtual hart as identity i: of
-- which source, the MSI says, and the history has its pass.
pub record ForwardsAs (h : History) (line : Line) (g : Vcpu) (i : ℕ) : Type 0 where
  pub msi : Msi
  pub p : ℕ
  pub sent : Contains (msis_sent_by h line) msi
  pub passed : passed_by h msi.source ≡ Some p
  pub to : (nth_pass h p).to ≡ g
  pub identity : (nth_pass h p).identity ≡ i

-- Within a line of a move all stores in flight of a VM land, and one of them asks for i there.
abbrev pub LandsAsked : History → Line → Vcpu → ℕ → Type 0
LandsAsked h line g i =
    (lands_all h (line_deed line) ≡ true)
    × (asks_in_flight h (steps_vm (line_deed line)) g i ≡ true)

-- All by which a line makes identity i pending at a virtual hart: it asks for it, forwards a source
-- that is passed there as i, or lands stores in flight of which one asks for it.
abbrev pub AddsBy : History → Line → Vcpu → ℕ → Type 0
AddsBy h line g i = Asks h line g i ⊎ (ForwardsAs h line g i ⊎ LandsAsked h line g i)
