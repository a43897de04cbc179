-- A step leaves the stable part of a server as it was, or makes of it what one request asked for.
use Rattle.st_lemmas.proofs.Words
use Words.{Stamp, ServerInput}
use Words.Server.{ServerState, ServerTurn, reply, tell, steal_from, suspect_client, keep_and_reply, server_step}
use Rattle.st_trace.specs.Server.Changing.{StableChange, Stays, Changes}
use Rattle.st_trace.specs.Server.Edits.{Phase, Edit, TakesTimers, Steals, Welcomes, Begins, Replaces, PutsOff, Sees, Reasserts, Serves, Repeats, Refuses}
use Rattle.st_trace.specs.Server.Edits.{Suspects, Grants, Demands}
use Rattle.st_trace.proofs.Server.Walk.{walk}

stable_edit : (n : ServerState) (now : Stamp) (i : ServerInput) (a : Phase) (t u : ServerTurn) → Edit n now i a t u →
    StableChange n now i t.state.stable → StableChange n now i u.state.stable
unfolding steal_from suspect_client keep_and_reply reply tell
stable_edit n now i a t u (TakesTimers _ e) p = p
stable_edit n now i a t u (Steals _ c s h e) p = p
stable_edit n now i a t u (Welcomes _ m s g e x f) p = p
stable_edit n now i a t u (Begins _ m g f) p = p
stable_edit n now i a t u (Replaces _ m s g e x f r) p = p
stable_edit n now i a t u (PutsOff _ m s g e x f r) p = p
stable_edit n now i a t u (Sees _ m ino g h b e) p = p
stable_edit n now i a t u (Reasserts _ m rows r on f) p = p
stable_edit n now i a t u (Serves _ m v b s e r) p = Changes m t v b s r
stable_edit n now i a t u (Repeats _ m s b x e f g k) p = p
stable_edit n now i a t u (Refuses _ m b r) p = p
stable_edit n now i a t u (Suspects _ c r is q f h e o) p = p
stable_edit n now i a t u (Grants _ w off h e f) p = p
stable_edit n now i a t u (Demands _ w r x e h o f d) p = p

pub step_stable : (n : ServerState) (now : Stamp) (i : ServerInput) → StableChange n now i (server_step n now i).state.stable
step_stable n now i = walk n now i (λ t. StableChange n now i t.state.stable) (stable_edit n now i) Stays
