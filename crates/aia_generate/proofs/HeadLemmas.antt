-- The lines of the head, by how many lines are before each of them.
use Rattle.std.proofs.Common.{◌≡◌, ℕ, ◌+◌, ◌-◌, ◌/◌, ◌%◌, ◌<◌, ◌≤◌, List, [], ◌∷◌, ◌++◌, length, take, drop, slice_get, inl, inr, refl, sym, ap, ◌∙◌, arith}
use Rattle.std.proofs.lemmas.Bool.{cases_lt}
use Rattle.aia_model.specs.declared.line.Line.{Line}
use Rattle.aia_model.specs.declared.line.Line.TheVariants.{GuestCsr}
use Rattle.aia_model.specs.declared.line.Line.TheVariants as lines
use Rattle.aia_model.specs.declared.want.Want.TheVariants as wants
use Rattle.aia_regs.specs.declared.access.Csr.TheVariants.{Select, Reg}
use Rattle.aia_generate.proofs.PlaceLemmas.{in_second, between}
use Rattle.aia_generate.specs.Generated.{made_ready, guest_ready, host_ready, head_lines}

-- a virtual hart makes its file ready after it has arrived
pub past_arrival : (vm vcpu k : ℕ) → 0 < k → slice_get (guest_ready vm vcpu) k ≡ slice_get
    (made_ready (GuestCsr vm vcpu Select) (GuestCsr vm vcpu Reg)) (k - 1)
past_arrival vm vcpu k past = in_second (lines.Move vm vcpu (wants.Arrive vm) ∷ [])
    (made_ready (GuestCsr vm vcpu Select) (GuestCsr vm vcpu Reg)) k past

-- the five lines of a virtual hart, and the four of a hart, from a place on
at_guest : (start vm vcpu k : ℕ) (before later : List Line) → length before ≡ start → start ≤ k → k < start + 5 → (k - 3) / 10 ≡ vm
    → (k - 3) / 5 % 2 ≡ vcpu → (k - 3) % 5 ≡ k - start
    → slice_get (before ++ (guest_ready vm vcpu ++ later)) k ≡ slice_get (guest_ready ((k - 3) / 10) ((k - 3) / 5 % 2)) ((k - 3) % 5)
at_guest start vm vcpu k before later long past within first second third =
    between before (guest_ready vm vcpu) later k (omega arith) (omega arith)
    ∙ (let e : k - length before ≡ (k - 3) % 5 = omega arith in ap (slice_get (guest_ready vm vcpu)) e)
    ∙ ap (λ v. slice_get (guest_ready v vcpu) ((k - 3) % 5)) (sym first)
    ∙ ap (λ c. slice_get (guest_ready ((k - 3) / 10) c) ((k - 3) % 5)) (sym second)

at_host : (start hart k : ℕ) (before later : List Line) → length before ≡ start → start ≤ k → k < start + 4 → (k - 23) / 4 ≡ hart
    → (k - 23) % 4 ≡ k - start
    → slice_get (before ++ (host_ready hart ++ later)) k ≡ slice_get (host_ready ((k - 23) / 4)) ((k - 23) % 4)
at_host start hart k before later long past within first second =
    between before (host_ready hart) later k (omega arith) (omega arith)
    ∙ (let e : k - length before ≡ (k - 23) % 4 = omega arith in ap (slice_get (host_ready hart)) e)
    ∙ ap (λ b. slice_get (host_ready b) ((k - 23) % 4)) (sym first)

pub guest_lines : (k : ℕ) → 3 ≤ k → k < 23 → slice_get head_lines k ≡ slice_get (guest_ready ((k - 3) / 10) ((k - 3) / 5 % 2)) ((k - 3) % 5)
guest_lines k low high =
    elim (cases_lt k 8) [
      | inl h ↦ at_guest 3 0 0 k (take 3 head_lines) (drop 8 head_lines) refl low h (omega arith) (omega arith) (omega arith)
      | inr h ↦ elim (cases_lt k 13) [
        | inl i ↦ at_guest 8 0 1 k (take 8 head_lines) (drop 13 head_lines) refl h i (omega arith) (omega arith) (omega arith)
        | inr i ↦ elim (cases_lt k 18) [
          | inl j ↦ at_guest 13 1 0 k (take 13 head_lines) (drop 18 head_lines) refl i j (omega arith) (omega arith) (omega arith)
          | inr j ↦ at_guest 18 1 1 k (take 18 head_lines) (drop 23 head_lines) refl j high (omega arith) (omega arith) (omega arith)
        ]
      ]
    ]

pub host_lines : (k : ℕ) → 23 ≤ k → k < 31 → slice_get head_lines k ≡ slice_get (host_ready ((k - 23) / 4)) ((k - 23) % 4)
host_lines k low high =
    elim (cases_lt k 27) [
      | inl h ↦ at_host 23 0 k (take 23 head_lines) (drop 27 head_lines) refl low h (omega arith) (omega arith)
      | inr h ↦ at_host 27 1 k (take 27 head_lines) [] refl h high (omega arith) (omega arith)
    ]
