-- If no node takes a step, nothing is sent, so no conflict.
use Rattle.st_lemmas.proofs.Words
use Words.{◌≡◌, ℕ, ◌+◌, true, List, [], ◌∷◌, Option, Some, None, refl, ◌∙◌, list_all, ClientId, NodeId, ServerId, Fate, LogEntry}
use Words.nodes
use Words.events
use Words.fates
use Words.Events as ev
use Words.Safety.{is_no_conflict}
use Words.World as world
use Words.World.{World, WorldClient, site_of}
use Words.Tables.{and_both}
use Rattle.std.proofs.lemmas.List.Folds.{list_all-append}

fate_quiet : (n : ℕ) (a b : Fate) → list_all is_no_conflict (ev.fate_seen n a b) ≡ true
fate_quiet n fates.Pending fates.Hard = refl
fate_quiet n fates.Pending (fates.Gone cause) = refl
fate_quiet n fates.Pending fates.Pending = refl
fate_quiet n fates.Hard b = refl
fate_quiet n (fates.Gone cause) b = refl

fates_quiet : (n : ℕ) (es fs : List LogEntry) → list_all is_no_conflict (ev.fates_from n es fs) ≡ true
unfolding ev.fates_from
fates_quiet n [] fs = refl
fates_quiet n (e ∷ es) [] = refl
fates_quiet n (e ∷ es) (f ∷ fs) = list_all-append is_no_conflict (ev.fate_seen n e.fate f.fate) _ ∙ and_both _ _ (fate_quiet n e.fate f.fate) (fates_quiet (n + 1) es fs)

crash_quiet : (w : World) (c : ClientId) (o : Option WorldClient) → list_all is_no_conflict (ev.crashes_client w c o).seen ≡ true
unfolding ev.crashes_client ev.marks
crash_quiet w c None = refl
crash_quiet w c (Some site) = fates_quiet 1 w.log (ev.log_crashed w c)

pub quiet_loss : (w : World) (n : ℕ) → list_all is_no_conflict (ev.happens w (events.Lose n)).seen ≡ true
unfolding ev.happens
quiet_loss w n = refl

pub quiet_link : (w : World) (a b : NodeId) → (list_all is_no_conflict (ev.happens w (events.Cut a b)).seen ≡ true) × (list_all is_no_conflict (ev.happens w (events.Heal a b)).seen ≡ true)
unfolding ev.happens
quiet_link w a b = (refl, refl)

pub quiet_advance : (w : World) (steps : List ℕ) → list_all is_no_conflict (ev.happens w (events.Advance steps)).seen ≡ true
unfolding ev.happens ev.advances ev.marks
quiet_advance w steps = fates_quiet 1 w.log (ev.log_ended_all w.commands (ev.lives_reached w steps) w.log)

pub quiet_effect : (w : World) (n : ℕ) → list_all is_no_conflict (ev.happens w (events.Effect n)).seen ≡ true
unfolding ev.happens ev.effects ev.marks
quiet_effect w n = fates_quiet 1 w.log (ev.log_hard w.log (ev.carried_by (world.issued_of w n)))

pub quiet_crash : (w : World) (c : ClientId) → list_all is_no_conflict (ev.happens w (events.Crash (nodes.Client c))).seen ≡ true
unfolding ev.happens ev.crashes
quiet_crash w c = crash_quiet w c (site_of w c)

pub quiet_stop : (w : World) (s : ServerId) → list_all is_no_conflict (ev.happens w (events.Crash (nodes.Server s))).seen ≡ true
unfolding ev.happens ev.crashes
quiet_stop w s = refl

pub quiet_start : (w : World) (n : NodeId) → list_all is_no_conflict (ev.happens w (events.Start n)).seen ≡ true
unfolding ev.happens
quiet_start w n = refl
