-- After a line all MSIs that wait are delivered, and then the machine stands for the history after
-- the line.
use Rattle.std.proofs.Common.{◌≡◌, ℕ, List, [], ◌∷◌, Option, Some, None, map, refl, sym, ap, subst, ◌∙◌, Bool, true, false, cond, is_none}
use Rattle.aia_model.specs.declared.line.Line.{Line}
use Rattle.aia_model.specs.declared.msi.Msi.{Msi}
use Rattle.aia_model.specs.declared.answer.Answer.{Answer}
use Rattle.aia_model.specs.Event.{History}
use Rattle.aia_model.specs.Event.Event.{Delivered, Relayed}
use Rattle.aia_model.specs.Act.{Past}
use Rattle.aia_model.specs.Act.Act.{Sent}
use Rattle.aia_model.specs.Sent.{senders, msi_of, waiting_msis, sent_by, with_all_sent, acts_of, msis_sent_by}
use Rattle.aia_model.specs.Refusal.{refusal}
use Rattle.aia_model.specs.declared.line.Line.TheVariants as lines
use Rattle.aia_model.specs.declared.want.Want.TheVariants as wants
use Rattle.aia_model.specs.Answer.{delivered, line_taken, history_after, given_on, msi_taken}
use Rattle.aia_model.proofs.AnswerLemmas.{after_by}
use Rattle.aia_aplic_values.specs.Aplic.{AplicState, AplicStands}
use Rattle.aia_aplic_values.specs.Sending.{Next}
use Rattle.aia_aplic_values.proofs.SendingLemmas.{msis_next, settled_next}
use Rattle.aia_replay.proofs.WaitingLemmas.{none_does_wait}
use Rattle.aia_replay.specs.declared.machine.Machine.{Machine}
use Rattle.aia_hyp_values.specs.Core.{CoreState}
use Rattle.aia_hyp_values.specs.Stands.{CoreStands, CoreHears, line_served, MayGo}
use Rattle.aia_replay.specs.Stands.{MachineHolds, MachineTakes, MachineServes, Delivers, SendsNone, NoneWaits, act_taken, EngineStandsForSome, CanDeliver, CanDeliverSome}
use Rattle.aia_model.specs.Passes.{passed_by}
use Rattle.aia_model.specs.Aim.{pass_reach, IsForwardIf}
use Rattle.aia_model.specs.PassesStand.{AreForwards}
use Rattle.aia_model.specs.Histories.{IsHistory, MayHappen}
use Rattle.aia_model.specs.declared.sender.Sender.{Sender}
use Rattle.aia_model.proofs.SentLemmas.{line_forwards, forwards_then, forwards_given, none_waiting, none_sent_by}
use Rattle.aia_model.proofs.HistoryLemmas.{line_happens, msi_happens, after_happens}
use Rattle.aia_model.proofs.WaitingLemmas.{none_waits}

-- ---- histories

-- neither a delivery nor what is given on is anything to the APLIC
acts_heard : (msi : Msi) (h : History) → acts_of (msi_taken msi h) ≡ acts_of h
acts_heard msi h = by_pass (passed_by h msi.source)
  where
    by_pass : (o : Option ℕ) → acts_of (given_on o (Delivered msi ∷ h)) ≡ acts_of h
    by_pass None = refl
    by_pass (Some p) = by_reach (is_none (pass_reach (Delivered msi ∷ h) p))
      where
        by_reach : (b : Bool) → acts_of (cond b (Relayed p ∷ Delivered msi ∷ h) (Delivered msi ∷ h)) ≡ acts_of h
        by_reach true = refl
        by_reach false = refl

acts_delivered : (ms : List Msi) (h : History) → acts_of (delivered ms h) ≡ acts_of h
acts_delivered [] h = refl
acts_delivered (m ∷ ms) h = acts_delivered ms (msi_taken m h) ∙ acts_heard m h

none_sent : (past : Past) → senders past ≡ [] → with_all_sent past ≡ past
none_sent past none = ap (λ xs. sent_by xs past) none

no_msis : (past : Past) → senders past ≡ [] → waiting_msis past ≡ []
no_msis past none = ap (map (msi_of past)) none

-- where nothing waits all that waits is sent
pub all_sent : (m : Machine) (h : History) (past : Past) → senders past ≡ [] → MachineHolds m h past
    → MachineHolds m (delivered (waiting_msis past) h) (with_all_sent past)
all_sent m h past none holds = subst (λ p. MachineHolds m (delivered (waiting_msis past) h) p) (sym (none_sent past none))
    (subst (λ ms. MachineHolds m (delivered ms h) past) (sym (no_msis past none)) holds)

-- ---- a line, then its MSIs

-- the MSIs that wait are those that the line sends
waiting_are : (h : History) (line : Line) → waiting_msis (act_taken None h line) ≡ msis_sent_by h line
waiting_are h (lines.Move vm vcpu (wants.Arrive hart)) = none_waiting (line_taken h (lines.Move vm vcpu (wants.Arrive hart)))
    ∙ sym (none_sent_by h (lines.Move vm vcpu (wants.Arrive hart)) refl)
waiting_are h (lines.Move vm vcpu wants.Leave) = none_waiting (line_taken h (lines.Move vm vcpu wants.Leave))
    ∙ sym (none_sent_by h (lines.Move vm vcpu wants.Leave) refl)
waiting_are h (lines.Move vm vcpu (wants.Shift hart)) = none_waiting (line_taken h (lines.Move vm vcpu (wants.Shift hart)))
    ∙ sym (none_sent_by h (lines.Move vm vcpu (wants.Shift hart)) refl)
waiting_are h (lines.Begin vm vcpu (wants.Arrive hart)) = none_waiting (line_taken h (lines.Begin vm vcpu (wants.Arrive hart)))
    ∙ sym (none_sent_by h (lines.Begin vm vcpu (wants.Arrive hart)) refl)
waiting_are h (lines.Begin vm vcpu wants.Leave) = none_waiting (line_taken h (lines.Begin vm vcpu wants.Leave))
    ∙ sym (none_sent_by h (lines.Begin vm vcpu wants.Leave) refl)
waiting_are h (lines.Begin vm vcpu (wants.Shift hart)) = none_waiting (line_taken h (lines.Begin vm vcpu (wants.Shift hart)))
    ∙ sym (none_sent_by h (lines.Begin vm vcpu (wants.Shift hart)) refl)
waiting_are h (lines.Step vm vcpu) = none_waiting (line_taken h (lines.Step vm vcpu)) ∙ sym (none_sent_by h (lines.Step vm vcpu) refl)
waiting_are h (lines.Land vm k) = none_waiting (line_taken h (lines.Land vm k)) ∙ sym (none_sent_by h (lines.Land vm k) refl)
waiting_are h line = refl

-- and when all are sent, the APLIC is as the history makes it
acts_are : (h : History) (line : Line) → with_all_sent (act_taken None h line) ≡ acts_of (line_taken h line)
acts_are h (lines.Move vm vcpu (wants.Arrive hart)) =
    none_sent (acts_of (line_taken h (lines.Move vm vcpu (wants.Arrive hart))))
    (none_waits (line_taken h (lines.Move vm vcpu (wants.Arrive hart))))
acts_are h (lines.Move vm vcpu wants.Leave) =
    none_sent (acts_of (line_taken h (lines.Move vm vcpu wants.Leave))) (none_waits (line_taken h (lines.Move vm vcpu wants.Leave)))
acts_are h (lines.Move vm vcpu (wants.Shift hart)) =
    none_sent (acts_of (line_taken h (lines.Move vm vcpu (wants.Shift hart)))) (none_waits (line_taken h (lines.Move vm vcpu (wants.Shift hart))))
acts_are h (lines.Begin vm vcpu (wants.Arrive hart)) =
    none_sent (acts_of (line_taken h (lines.Begin vm vcpu (wants.Arrive hart))))
    (none_waits (line_taken h (lines.Begin vm vcpu (wants.Arrive hart))))
acts_are h (lines.Begin vm vcpu wants.Leave) =
    none_sent (acts_of (line_taken h (lines.Begin vm vcpu wants.Leave))) (none_waits (line_taken h (lines.Begin vm vcpu wants.Leave)))
acts_are h (lines.Begin vm vcpu (wants.Shift hart)) =
    none_sent (acts_of (line_taken h (lines.Begin vm vcpu (wants.Shift hart))))
    (none_waits (line_taken h (lines.Begin vm vcpu (wants.Shift hart))))
acts_are h (lines.Step vm vcpu) = none_sent (acts_of (line_taken h (lines.Step vm vcpu))) (none_waits (line_taken h (lines.Step vm vcpu)))
acts_are h (lines.Land vm k) = none_sent (acts_of (line_taken h (lines.Land vm k))) (none_waits (line_taken h (lines.Land vm k)))
acts_are h line = refl

pub after_delivery : (n : Machine) (h : History) (line : Line) (r : Option Answer)
    → MachineHolds n (delivered (waiting_msis (act_taken r h line)) (line_served r h line)) (with_all_sent (act_taken r h line))
    → MachineHolds n (history_after r h line) (acts_of (history_after r h line))
after_delivery n h line None holds =
    subst (MachineHolds n (delivered (msis_sent_by h line) (line_taken h line)))
    (acts_are h line ∙ sym (acts_delivered (msis_sent_by h line) (line_taken h line)))
    (subst (λ ms. MachineHolds n (delivered ms (line_taken h line)) (with_all_sent (act_taken None h line))) (waiting_are h line) holds)
after_delivery n h line (Some word) holds =
    subst (λ p. MachineHolds n h p) (none_sent (acts_of h) (none_waits h))
    (subst (λ ms. MachineHolds n (delivered ms h) (with_all_sent (acts_of h))) (no_msis (acts_of h) (none_waits h)) holds)

-- what a line sends may be delivered
pub can_deliver : (n : Machine) (h : History) (line : Line) (r : Option Answer) → refusal h line ≡ r → IsHistory h
    → MachineHolds n (line_served r h line) (act_taken r h line) → CanDeliver n (line_served r h line) (act_taken r h line)
can_deliver n h line None e good holds = record {
  holds = holds;
  happens = line_happens h line e good;
  forwards = subst (AreForwards (line_taken h line)) (sym (waiting_are h line)) (line_forwards h line e good);
}
can_deliver n h line (Some word) e good holds = record {
  holds = holds;
  happens = good;
  forwards = subst (AreForwards h) (sym (no_msis (acts_of h) (none_waits h))) tt;
}

pub can_deliver_some : (m n : Machine) (line : Line) (given : Answer) → EngineStandsForSome m → MachineTakes m n line given → CanDeliverSome n
can_deliver_some m n line given some takes =
    let h = some.past in
    record {
      events = line_served (refusal h line) h line;
      acts = act_taken (refusal h line) h line;
      can =
          can_deliver n h line (refusal h line) refl some.stands.happens (takes.takes h some.stands);
    }

pub served : (m taken n : Machine) (line : Line) (given : Answer) → MachineTakes m taken line given → Delivers taken n → MachineServes m n line given
served m taken n line given takes delivers = record {
  answers = takes.answers;
  stands = λ h stands. record {
    holds = subst (λ (x : History). MachineHolds n x (acts_of x)) (sym (after_by h line (refusal h line) refl))
        (after_delivery n h line (refusal h line) (delivers _ _
        (can_deliver taken h line (refusal h line) refl stands.happens (takes.takes h stands))));
    happens = after_happens h line stands.happens;
  };
}

-- where the line has none wait, none waits after it, refused or not
pub none_after : (m n : Machine) (line : Line) (given : Answer) → EngineStandsForSome m → MachineTakes m n line given → SendsNone line → NoneWaits n
none_after m n line given some takes sends =
    let h = some.past in
    none_does_wait n.wires.aplic (act_taken (refusal h line) h line) (takes.takes h some.stands).aplic (by_refusal h (refusal h line))
  where
    by_refusal : (h : History) (r : Option Answer) → senders (act_taken r h line) ≡ []
    by_refusal h None = sends h
    by_refusal h (Some word) = none_waits h

-- ---- the loop

-- some of the MSIs that waited are delivered; when the others are too, all is as if all had been
-- delivered at once
pub record Way (now : Machine) (h : History) (past : Past) : Type 0 where
  pub events : History
  pub acts : Past
  pub can : CanDeliver now events acts
  pub same : delivered (waiting_msis acts) events ≡ delivered (waiting_msis past) h
  pub settles : with_all_sent acts ≡ with_all_sent past

abbrev pub SoFar : Machine → Machine → Type 0
SoFar old now = (h : History) (past : Past) → CanDeliver old h past → Way now h past

pub begin : (m : Machine) → SoFar m m
begin m = λ h past can. record { events = h; acts = past; can = can; same = refl; settles = refl }

may_be : (m : Machine) (msi : Msi) (h : History) (past : Past) → CanDeliver m h past → (sender : Sender) (later : List Sender)
    → senders past ≡ sender ∷ later → msi ≡ msi_of past sender → MayHappen h (Delivered msi)
may_be m msi h past can sender later first is =
    let forwards : AreForwards h (msi_of past sender ∷ waiting_msis (Sent sender ∷ past)) =
    subst (AreForwards h) (msis_next past sender later first) can.forwards in
    (can.holds.core.there, subst (λ (x : Msi). IsForwardIf h x (passed_by h x.source)) (sym is) forwards.0)

-- the others are forwards still
forwards_on : (msi : Msi) (h : History) (sent : List Msi) → AreForwards h sent → AreForwards (msi_taken msi h) sent
forwards_on msi h sent all = by_pass (passed_by h msi.source)
  where
    by_pass : (o : Option ℕ) → AreForwards (given_on o (Delivered msi ∷ h)) sent
    by_pass None = forwards_then msi h sent all
    by_pass (Some p) = by_reach (is_none (pass_reach (Delivered msi ∷ h) p))
      where
        by_reach : (b : Bool) → AreForwards (cond b (Relayed p ∷ Delivered msi ∷ h) (Delivered msi ∷ h)) sent
        by_reach true = forwards_given p (Delivered msi ∷ h) sent (forwards_then msi h sent all)
        by_reach false = forwards_then msi h sent all

-- the next one may be delivered
pub may_hear : (old m : Machine) (rest : AplicState) (msi : Msi) → SoFar old m → CanDeliverSome old
    → ((past : Past) → AplicStands m.wires.aplic past → Next rest (Some msi) past) → MayGo m.core (Delivered msi)
may_hear old m rest msi so_far some nexts =
    let way = so_far some.events some.acts some.can in
    let next = nexts way.acts way.can.holds.aplic in
    record {
      past = way.events;
      happens = way.can.happens;
      stands = way.can.holds.core;
      may =
          may_be m msi way.events way.acts way.can next.sender next.later next.first next.msi;
    }

pub one_more : (old m n : Machine) (msi : Msi) → SoFar old m
    → ((past : Past) → AplicStands m.wires.aplic past → Next n.wires.aplic (Some msi) past) → CoreHears m.core n.core msi → SoFar old n
one_more old m n msi so_far nexts hears = λ h past can.
    let way = so_far h past can in
    let next = nexts way.acts way.can.holds.aplic in
    let acts : Past = Sent next.sender ∷ way.acts in
    let may = may_be m msi way.events way.acts way.can next.sender next.later next.first next.msi in
    let list : waiting_msis way.acts ≡ msi_of way.acts next.sender ∷ waiting_msis acts = msis_next way.acts next.sender next.later next.first in
    record {
      events = msi_taken msi way.events;
      acts = acts;
      can = record {
        holds = record { core = hears way.events way.can.holds.core may; aplic = next.stands };
        happens = msi_happens way.events msi may way.can.happens;
        forwards = forwards_on msi way.events (waiting_msis acts) (subst (AreForwards way.events) list way.can.forwards).1;
      };
      same = ap (λ (x : Msi). delivered (waiting_msis acts) (msi_taken x way.events)) next.msi
          ∙ sym (ap (λ ms. delivered ms way.events) list) ∙ way.same;
      settles = sym (settled_next way.acts next.sender next.later next.first) ∙ way.settles;
    }

pub all_delivered : (old m n : Machine) → SoFar old m → ((past : Past) → AplicStands m.wires.aplic past → Next n.wires.aplic None past)
    → n.core ≡ m.core → Delivers old n
all_delivered old m n so_far nexts same = λ h past can.
    let way = so_far h past can in
    let next = nexts way.acts way.can.holds.aplic in
    let now : MachineHolds n way.events way.acts =
    record { core = subst (λ (x : CoreState). CoreStands x way.events) (sym same) way.can.holds.core; aplic = next.1 } in
    subst (λ (x : History). MachineHolds n x (with_all_sent past)) way.same
    (subst (λ (p : Past). MachineHolds n (delivered (waiting_msis way.acts) way.events) p) way.settles (all_sent n way.events way.acts next.0 now))
