-- A source that is passed, forwarded within a line: told without the words of `aia_isolation`.
use Rattle.std.specs.Prelude.{◌≡◌, ℕ, Some}
use Rattle.std.specs.List.{Contains}
use Rattle.aia_vcpu.specs.Vms.{Vcpu}
use Rattle.aia_model.specs.declared.line.Line.{Line}
use Rattle.aia_model.specs.declared.msi.Msi.{Msi}
use Rattle.aia_model.specs.Event.{History}
use Rattle.aia_model.specs.Passes.{nth_pass, passed_by}
use Rattle.aia_model.specs.Sent.{msis_sent_by}

-- An MSI that is sent within the line comes from a source that is passed to the virtual hart as i.
abbrev pub IsForwarded : History → Line → Vcpu → ℕ → Type 0
IsForwarded h line g i = (msi : Msi) × (p : ℕ) × Contains (msis_sent_by h line) msi
    × (passed_by h msi.source ≡ Some p) × ((nth_pass h p).to ≡ g)
    × ((nth_pass h p).identity ≡ i)
