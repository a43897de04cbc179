-- Dates of the history stay of replies through every event: messages stay sent, and clients stay.
use Rattle.st_lemmas.proofs.Words
use Words.{◌≡◌, List, [], ◌∷◌, Option, Some, None, refl, ◌∙◌, ClientId, ServerId, Stamp, Message, Note, Output, Phase, SentMessage}
use Words.nodes
use Words.notes
use Words.outputs
use Words.phases
use Words.Client as cl
use Words.ClientState.{ClientState}
use Words.Events as ev
use Words.Events.{WorldTurn, client_says, client_says_all, server_says, server_says_all}
use Words.World.{World, WorldClient, site_of, clock_of}
use Words.Lists.{Has}
use Words.Members.{has_left}

-- settings stay, and what was sent stays sent
pub record Later (w v : World) : Type 0 where
  pub config : v.config ≡ w.config
  pub sent : (m : SentMessage) → Has m w.net.messages → Has m v.net.messages

later_same : (w : World) → Later w w
later_same w = record { config = refl; sent = λ m h. h }

later_then : (u v w : World) → Later u v → Later v w → Later u w
later_then u v w a b = record { config = b.config ∙ a.config; sent = λ m h. b.sent m (a.sent m h) }

sends_later : (sc : WorldTurn) (m : Message) → Later sc.world (ev.sends sc m).world
unfolding ev.sends
sends_later sc m = record { config = refl; sent = λ x h. has_left sc.world.net.messages _ x h }

client_one : (c : ClientId) (before : ClientState) (o : Output) (sc : WorldTurn) → Later sc.world (client_says sc c before o).world
unfolding client_says ev.submits ev.answers_with ev.client_notes ev.accepts ev.patches ev.loses
client_one c before (outputs.Send m) sc = sends_later sc m
client_one c before (outputs.Answer op a) sc = record { config = refl; sent = λ x h. h }
client_one c before (outputs.Submit n at what) sc = go (site_of sc.world c)
  where
    go : (o : Option WorldClient) → Later sc.world (ev.submits sc c o n at what).world
    go None = later_same sc.world
    go (Some s) = record { config = refl; sent = λ x h. h }
client_one c before (outputs.Note n) sc = note n
  where
    note : (n : Note) → Later sc.world (ev.client_notes sc c before n).world
    note (notes.Accepted f p bytes) = record { config = refl; sent = λ x h. h }
    note (notes.Patched f p at bytes) = record { config = refl; sent = λ x h. h }
    note (notes.Lost s l) = record { config = refl; sent = λ x h. h }
    note (notes.Leased s e) = record { config = refl; sent = λ x h. h }
    note n = record { config = refl; sent = λ x h. h }

pub client_later : (c : ClientId) (before : ClientState) (os : List Output) (sc : WorldTurn) → Later sc.world (client_says_all c before os sc).world
unfolding client_says_all
client_later c before [] sc = later_same sc.world
client_later c before (o ∷ os) sc = later_then sc.world (client_says sc c before o).world _ (client_one c before o sc) (client_later c before os (client_says sc c before o))

pub flush_later : (c : ClientId) (s : ClientState) (ss : List ServerId) (w : World) → Later w (ev.flushes c s ss w)
unfolding ev.flushes
flush_later c s [] w = later_same w
flush_later c s (y ∷ ss) w = later_then w (ev.flushed_at w c y s) _ (in_phase (cl.lease_end_with s y) (cl.phase_with s y (clock_of w (nodes.Client c)))) (flush_later c s ss (ev.flushed_at w c y s))
  where
    under : (o : Option Stamp) → Later w (ev.flushed_under w c y o)
    under None = later_same w
    under (Some e) = record { config = refl; sent = λ x h. h }

    in_phase : (o : Option Stamp) (p : Option Phase) → Later w (ev.flushed_in w c y o p)
    in_phase o (Some phases.Flush) = under o
    in_phase o p = later_same w

server_one : (s : ServerId) (o : Output) (sc : WorldTurn) → Later sc.world (server_says sc s o).world
unfolding server_says ev.server_notes ev.cuts
server_one s (outputs.Send m) sc = sends_later sc m
server_one s (outputs.Note n) sc = note n
  where
    note : (n : Note) → Later sc.world (ev.server_notes sc s n).world
    note (notes.Suspected c t) = record { config = refl; sent = λ x h. h }
    note (notes.Stolen c l) = record { config = refl; sent = λ x h. h }
    note (notes.CutDone f p) = record { config = refl; sent = λ x h. h }
    note n = record { config = refl; sent = λ x h. h }
server_one s o sc = record { config = refl; sent = λ x h. h }

pub server_later : (s : ServerId) (os : List Output) (sc : WorldTurn) → Later sc.world (server_says_all s os sc).world
unfolding server_says_all
server_later s [] sc = later_same sc.world
server_later s (o ∷ os) sc = later_then sc.world (server_says sc s o).world _ (server_one s o sc) (server_later s os (server_says sc s o))
