-- Rows that break no rule have room for one more request, and their counters fit their types.
use Rattle.std.proofs.Common.{◌≡◌, ℕ, ◌*◌, ◌^◌, ◌<◌, ◌≤◌, List, [], ◌∷◌, refl, arith}
use Rattle.std.proofs.Math.Nat.{mul-le-mul_right}
use Rattle.acd_terms.specs.Lists.{Every}
use Rattle.acd_terms.specs.declared.rows.Rows.{Rows}
use Rattle.acd_terms.specs.declared.record.GroupRecord.{GroupRecord}
use Rattle.acd_terms.specs.declared.command.Command.{Command}
use Rattle.acd_model.specs.Writes.{with_last}
use Rattle.acd_model.specs.Step.{step, executed_moment, next_stamp}
use Rattle.acd_model.specs.Rules.First.{BreaksNoRule}
use Rattle.acd_switch.specs.FigureSums.{AreFitting, AllFit}
use Rattle.acd_lemmas.proofs.RuleFacts.{IsCountedUpTo, AddsUp}
use Rattle.acd_laws.proofs.Rules.AllRuleTests.{keeps_read}
use Rattle.acd_switch.specs.Room.{HasRoom, CountersFit}
use Rattle.acd_lemmas.proofs.Changes.{requests_few}

-- one more request, call and monitor can be numbered
pub has_room : (s : Rows) → BreaksNoRule s → s.last_stamp < s.limits.requests → HasRoom s
has_room s h room =
    let k = keeps_read s h in
    let few = requests_few s.limits k.sizes.limits in
    record {
      stamp = omega (arith, few);
      call = omega (arith, few, k.last_call);
      monitor = omega (arith, few, k.last_monitor);
    }

-- the figures of a group: entered bounds what was answered, abandoned and moved, and these what was waited
fitting : (s : Rows) (m : ℕ) (g : GroupRecord) → s.last_stamp ≤ 1000000000 → m < 2 ^ 32 → IsCountedUpTo s.last_stamp m g → AddsUp s g → AreFitting g.figures
fitting s m g few small h b =
    let answered : g.figures.answered ≤ 1000000000 = omega (arith, h.0, b) in
    let product : g.figures.answered * m ≤ 1000000000 * m = mul-le-mul_right m answered in
    record {
      entered = omega (arith, h.0);
      answered = omega (arith, answered);
      abandoned = omega (arith, h.0, b);
      moved = omega (arith, h.0, b);
      waited = omega (arith, h.1, product);
    }

all_fitting : (s : Rows) (m : ℕ) (gs : List GroupRecord) → s.last_stamp ≤ 1000000000 → m < 2 ^ 32 → Every (IsCountedUpTo s.last_stamp m) gs
    → Every (AddsUp s) gs → AllFit gs
all_fitting s m [] few small h b = tt
all_fitting s m (g ∷ gs) few small h b = (fitting s m g few small h.0 b.0, all_fitting s m gs few small h.1 b.1)

pub fits : (s : Rows) → BreaksNoRule s → s.last_stamp ≤ 1000000000 → s.last_moment < 2 ^ 32 → CountersFit s
fits s h few small =
    let k = keeps_read s h in
    record {
      event = omega (arith, k.last_event);
      figures = all_fitting s s.last_moment s.groups few small k.figures k.balance;
    }

-- the stamp and the moment after a step
stamp_after : (s : Rows) (moment : ℕ) (command : Command) → (step s moment command).rows.last_stamp ≡ next_stamp s
unfolding step with_last
stamp_after s moment command = refl

pub moment_after : (s : Rows) (moment : ℕ) (command : Command) → (step s moment command).rows.last_moment ≡ executed_moment s moment
unfolding step with_last
moment_after s moment command = refl

pub fits_after : (s : Rows) (moment : ℕ) (command : Command) → BreaksNoRule s → s.last_stamp < s.limits.requests → BreaksNoRule (step s moment command).rows
    → executed_moment s moment < 2 ^ 32 → CountersFit (step s moment command).rows
fits_after s moment command h room kept small =
    let few = requests_few s.limits (keeps_read s h).sizes.limits in
    let stamp = stamp_after s moment command in
    let at = moment_after s moment command in
    fits (step s moment command).rows kept (omega (arith, few, stamp)) (omega (arith, at, small))
