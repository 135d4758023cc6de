-- What is done about a slot as an interrupt file shows in the places of the virtual hart to which
-- the slot belongs, and in those of no other.
use Rattle.std.proofs.Common.{◌≡◌, ◌≢◌, ℕ, ◌+◌, ◌<◌, true, get_or, inr, sym, ap, ◌∙◌, arith}
use Rattle.aia_regs.specs.declared.limits.TheConstants.{VCPUS}
use Rattle.aia_file.specs.InterruptFile.{InterruptFile}
use Rattle.aia_file.specs.Mrif.{mrif_in}
use Rattle.aia_file.proofs.SlotLemmas.{own_words}
use Rattle.aia_vcpu.specs.Vms.{Vcpu, is_vcpu_in, slot_of}
use Rattle.aia_vcpu.specs.Home.{Home}
use Rattle.aia_vcpu.proofs.VmLemmas.{same_slot}
use Rattle.aia_fabric_values.specs.World.{World}
use Rattle.aia_fabric_values.specs.Making.{entry_word_place}
use Rattle.aia_move_values.specs.Views.{places_of}
use Rattle.aia_fabric_values.specs.SlotAccess.{DoneInSlot}
use Rattle.aia_fabric_values.proofs.SlotDeeds.{slots_apart}

module _ (w u : World) (q threshold : ℕ) (deed : InterruptFile → InterruptFile) (low : q < VCPUS) (changed : DoneInSlot w u q threshold deed) where
  -- every other slot is equal
  pub other_slot_kept : (r : ℕ) → r ≢ q → mrif_in u.memory r ≡ mrif_in w.memory r
  other_slot_kept r other = own_words w.memory u.memory r (λ place from to. changed.elsewhere place (slots_apart q r place other from to))

  -- and so are the words of the entries of all tables
  pub done_entry_words : (vm file : ℕ) → (get_or u.memory (entry_word_place vm file) 0 ≡ get_or w.memory (entry_word_place vm file) 0)
      × (get_or u.memory (entry_word_place vm file + 1) 0 ≡ get_or w.memory (entry_word_place vm file + 1) 0)
  done_entry_words vm file = (
    changed.elsewhere (entry_word_place vm file) (inr (omega arith)),
    changed.elsewhere (entry_word_place vm file + 1) (inr (omega arith)),
  )

  -- of any virtual hart nothing but its slot
  pub slot_done-places : (g : Vcpu) (there : Home) → places_of u g there ≡ record (places_of w g there) { slot = mrif_in u.memory (slot_of w.vms g) }
  slot_done-places g there =
      let words = done_entry_words g.vm g.vcpu in
      let all : places_of (record w { memory = u.memory }) g there ≡ record (places_of w g there) { slot = mrif_in u.memory (slot_of w.vms g) } =
      λ k. record (places_of w g there) { slot = mrif_in u.memory (slot_of w.vms g); word0 = words.0 k; word1 = words.1 k } in
      ap (λ (x : World). places_of x g there) changed.rest ∙ all

  -- and that stays where it is another slot
  pub slot_done-others : (g : Vcpu) (there : Home) → q ≢ slot_of w.vms g → places_of u g there ≡ places_of w g there
  slot_done-others g there other =
      let slot = other_slot_kept (slot_of w.vms g) (λ e. other (sym e)) in
      let all : record (places_of w g there) { slot = mrif_in u.memory (slot_of w.vms g) } ≡ places_of w g there =
      λ k. record (places_of w g there) { slot = slot k } in
      slot_done-places g there ∙ all

  -- as is that of every other virtual hart that is there
  pub slot_done-peers : (g x : Vcpu) (there : Home) → is_vcpu_in w.vms g ≡ true → is_vcpu_in w.vms x ≡ true → slot_of w.vms g ≡ q → x ≢ g
      → places_of u x there ≡ places_of w x there
  slot_done-peers g x there standing inside is other = slot_done-others x there (λ e. other (same_slot w.vms x g inside standing (sym (is ∙ e))))
