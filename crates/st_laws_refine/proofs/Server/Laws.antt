-- The laws of the server's side, from the rules and from the events.
use Rattle.st_lemmas.proofs.Words
use Words.{◌≡◌, subst, Ok, ServerInput}
use Words.Events.{world_step}
use Words.serving.{Tick, Control}
use Rattle.st_protocol.proofs.Invariant.{Invariant}
use Rattle.st_protocol.proofs.World.{invariant}
use Rattle.st_laws_refine.specs.Server.Law.{Comes, ServerStepsAreMoves, RowsStayCompatible, StepsKeepServers, AdvancesKeepServers, CrashesKeepServers}
use Rattle.st_laws_refine.specs.Server.Law.{StartsKeepServers, ServersWait, CalmStays, FewStay}
use Rattle.st_laws_refine.specs.Server.Invariants.{ByTick, ByMessage}
use Rattle.st_laws_refine.proofs.Server.Step.{ReceivedInput, step_goes}
use Rattle.st_laws_refine.proofs.Server.Compat.{compat_step}
use Rattle.st_laws_refine.proofs.Server.Runs.{ticked, delivered}
use Rattle.st_laws_refine.proofs.Server.Fold.{crashed, started}
use Rattle.st_laws_refine.proofs.Server.Advances.{advances_stand}
use Rattle.st_laws_refine.proofs.Server.Calm.{calm_fresh, calm_crash, calm_start}
use Rattle.st_laws_refine.proofs.Server.Counts.{few_fresh, few_more, few_crash, few_start, few_grants}
use Rattle.st_laws_refine.proofs.Server.Waits.{server_waits}

pub server_steps_are_moves : ServerStepsAreMoves
server_steps_are_moves k w cl now d n x i ok reached is comes ready =
    let r = step_goes k cl now d n x i ok (received i comes) (subst (Invariant k) is (invariant k w ok reached d)) ready in
    record { ghost = r.ghost; moves = r.moves; ready = r.ready }
  where
    received : (i : ServerInput) → Comes d i x.net → ReceivedInput k cl now d i x.net
    received Tick c = c
    received (Control m) c = c

pub compatible : RowsStayCompatible
compatible = compat_step

pub steps_keep : StepsKeepServers
steps_keep k s ended w e sc node G ok pos runs settings ends taken (ByTick is) st =
    let z = ticked k s ended w sc node G ok runs settings ends (subst (λ e. world_step w e ≡ Ok sc) is taken) st in record { node = z.node2; ghosts = z.step.ghosts; runs = z.runs; stands = z.step.stands; late = z.late; calm = z.calm; few = z.few; quiet = z.quiet }
steps_keep k s ended w e sc node G ok pos runs settings ends taken (ByMessage n m is there to) st =
    let z = delivered k s ended w n m sc node G ok pos runs settings ends (subst (λ e. world_step w e ≡ Ok sc) is taken) there to st in
    record { node = z.node2; ghosts = z.step.ghosts; runs = z.runs; stands = z.step.stands; late = z.late; calm = z.calm; few = z.few; quiet = z.quiet }

pub advances_keep : AdvancesKeepServers
advances_keep k s ended w steps sc node G ok pos full taken timed st =
    let z = advances_stand k s ended w node G steps sc ok pos full taken timed st in record { ghosts = z.ghosts; stands = z.stands; timed = z.timed; nets = z.nets }

pub crashes_keep : CrashesKeepServers
crashes_keep k s ended w sc node G runs few e st = crashed k s ended w node G sc runs (few_grants w.net.bytes node.state few) e st

pub starts_keep : StartsKeepServers
starts_keep k s ended w sc node G pos down e st = started k s ended w node G sc pos down e st

pub waits_keep : ServersWait
waits_keep k s ended t node G ok st known shown = server_waits k s ended t node G ok st known shown

pub calm_stays : CalmStays
calm_stays = record { fresh = calm_fresh; crashed = calm_crash; started = calm_start }

pub few_stay : FewStay
few_stay = record { fresh = few_fresh; more = few_more; crashed = few_crash; started = few_start }
