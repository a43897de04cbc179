-- Each write that a client's step submits is right if its bytes are the page's and it goes to where the server has the page.
use Rattle.st_lemmas.proofs.Words
use Words.{◌≡◌, ℕ, ◌+◌, ◌%◌, true, List, [], ◌∷◌, ◌++◌, Option, Some, None, refl, sym, ap, ◌∙◌, subst, inl, inr, arith, length, pred, BlockAt, Command, Tag}
use Words.{ClientId, FileId, Life, PageNo, ServerId, Ask, Note, Output, ClientInput, LogEntry, LogOwner, IssuedCommand}
use Words.commands
use Words.nodes
use Words.notes
use Words.outputs
use Words.Client as cl
use Words.ClientState.{Association, ClientState}
use Words.Events as ev
use Words.Events.{WorldTurn, client_says, client_says_all, present_life}
use Words.FlatLog as log
use Words.FlatLog.{owner}
use Words.Keys.{client}
use Words.Safety.{Step}
use Words.World as world
use Words.World.{World, WorldClient, clock_of, life_with, numbered, server_of_disk, site_of}
use Words.Lists.{Has}
use Words.Lookups.{some_is}
use Words.Worlds.{says_both}
use Rattle.st_protocol.specs.Assoc.{Config}
use Rattle.st_laws_refine.proofs.Client.World.{lives_same, told_one}
use Rattle.st_laws_pages.specs.Flush.Flush.{FlushHold}
use Rattle.st_laws_pages.specs.Disks.Folds.{CutsHard, OnlyOwn}
use Rattle.st_laws_steps.specs.Lives.Lives.{LivesHold}
use Rattle.st_laws_pages.specs.Disks.Obligations.{TimelyIn}
use Rattle.st_laws_pages.specs.Disks.World.{Living, Owes, OwesOne, SubmitRight, SubmitsRight, Timely, mapped_in}
use Rattle.st_laws_pages.proofs.Lives.Lasting.{flush_parts}
use Rattle.st_laws_pages.proofs.Causes.Placed.{Placed}
use Rattle.st_laws_reads.specs.Copies.Copies.{Right, RightBehind, RightOne}
use Rattle.st_laws_reads.specs.AllClients.Events.{FrozenStandAlone}
use Rattle.st_laws_reads.specs.AllClients.World.{CopiesHold}
use Rattle.st_laws_reads.proofs.AllClients.Settled.{own_law}
use Rattle.st_laws_pages.specs.Writes.Writes.{OpenHold, WritesOnce}
use Rattle.st_laws_pages.proofs.Writes.Joining.{placed_at}
use Rattle.st_laws_pages.proofs.Writes.Listing.{write_said}
use Rattle.st_laws_reads.specs.OpenWrites.StandStill.{WritesHold}
use Rattle.st_laws_reads.proofs.OpenWrites.Alone as alone
use Rattle.st_laws_reads.proofs.OpenWrites.Alone.{mine, sc0, t, v}
use Rattle.st_laws_reads.proofs.OpenWrites.Growing.{grows_all}
use Rattle.st_laws_extents.specs.Submits.WritePlaces.{LiesAs}
use Rattle.st_laws_extents.specs.Submits.Submits.{EachFine, FineOne, FineSubmit, FineWrite}

-- What joins the log comes after what there was.
record LogGrows (es fs : List LogEntry) : Type 0 where
  more : List LogEntry
  is : fs ≡ es ++ more

log_same : (es : List LogEntry) → LogGrows es es
log_same es = record { more = []; is = none es }
  where
    none : (xs : List LogEntry) → xs ≡ xs ++ []
    none [] = refl
    none (x ∷ xs) = ap (λ z. x ∷ z) (none xs)

log_then : (es fs gs : List LogEntry) → LogGrows es fs → LogGrows fs gs → LogGrows es gs
log_then es fs gs a b = record { more = a.more ++ b.more; is = b.is ∙ ap (λ z. z ++ b.more) a.is ∙ assoc es a.more b.more }
  where
    assoc : (xs ys zs : List LogEntry) → (xs ++ ys) ++ zs ≡ xs ++ (ys ++ zs)
    assoc [] ys zs = refl
    assoc (x ∷ xs) ys zs = ap (λ z. x ∷ z) (assoc xs ys zs)

log_one : (c : ClientId) (before : ClientState) (o : Output) (sc : WorldTurn) → LogGrows sc.world.log (client_says sc c before o).world.log
unfolding client_says ev.client_notes ev.sends ev.submits ev.answers_with ev.accepts ev.patches ev.loses log.accept log.patch
log_one c before (outputs.Send m) sc = log_same sc.world.log
log_one c before (outputs.Submit number at what) sc = go (site_of sc.world c)
  where
    go : (o : Option WorldClient) → LogGrows sc.world.log (ev.submits sc c o number at what).world.log
    go None = log_same sc.world.log
    go (Some s) = log_same sc.world.log
log_one c before (outputs.Answer o a) sc = log_same sc.world.log
log_one c before (outputs.Note n) sc = note n
  where
    note : (n : Note) → LogGrows sc.world.log (ev.client_notes sc c before n).world.log
    note (notes.Accepted f p bytes) = record { more = _ ∷ []; is = refl }
    note (notes.Patched f p at bytes) = record { more = _ ∷ []; is = refl }
    note (notes.Lost s life) = log_same sc.world.log
    note n = log_same sc.world.log

log_all : (c : ClientId) (before : ClientState) (os : List Output) (sc : WorldTurn) → LogGrows sc.world.log (client_says_all c before os sc).world.log
unfolding client_says_all
log_all c before [] sc = log_same sc.world.log
log_all c before (o ∷ os) sc = log_then sc.world.log (client_says sc c before o).world.log _ (log_one c before o sc) (log_all c before os (client_says sc c before o))

own_front : (o : LogOwner) (f : FileId) (p : PageNo) (es more : List LogEntry) → OnlyOwn o f p (es ++ more) → OnlyOwn o f p es
own_front o f p [] more h = record {}
own_front o f p (e ∷ es) more h = record { one = h.one; rest = own_front o f p es more h.rest }

says_next : (c : ClientId) (before : ClientState) (pre : List Output) (o : Output) (sc : WorldTurn) → client_says_all c before (pre ++ o ∷ []) sc ≡ client_says (client_says_all c before pre sc) c before o
unfolding client_says_all
says_next c before pre o sc = says_both c before pre (o ∷ []) sc

append_one : (pre rest : List Output) (o : Output) → (pre ++ o ∷ []) ++ rest ≡ pre ++ o ∷ rest
append_one [] rest o = refl
append_one (x ∷ pre) rest o = ap (λ z. x ∷ z) (append_one pre rest o)

module _ (w : World) (c : ℕ) (old site : WorldClient) (input : ClientInput) (there : site_of w (client c) ≡ Some old) (same : old.node ≡ site.node) (runs : site.node.running ≡ true) (lives : LivesHold w) (counts : length w.commands ≡ length w.disks.commands)
    (placed : Placed (length w.servers) (cl.client_step site.node.state (clock_of w (nodes.Client (client c))) input).out) (once : (a : Association) → Has a site.node.state.associations → WritesOnce a) where
  abbrev V : World
  V = v w c old site input there same runs lives counts placed once

  abbrev S : WorldTurn
  S = sc0 w c old site input there same runs lives counts placed once

  abbrev T : cl.NodeTurn
  T = t w c old site input there same runs lives counts placed once

  abbrev M : WorldClient
  M = mine w c old site input there same runs lives counts placed once

  abbrev at_pre : List Output → WorldTurn
  at_pre pre = client_says_all (client c) site.node.state pre S

  module _ (asks : ℕ → ℕ → Option Ask) (k : Config) (count : ℕ) (past : List Step) (h : WritesHold k count V) (open_ : OpenHold V) (copies : CopiesHold asks V) (flush : FlushHold past V)
      (served : (j : ℕ) (y : IssuedCommand) (a : BlockAt) (g : Tag) (ct : List ℕ) → Living (Timely w) w.commands w.disks.commands j y a g ct → y.server ≡ g.file.server)
      (frozen_lives : FrozenStandAlone V) (cuts : CutsHard V.log)
      (lies : (number : ℕ) (at to : BlockAt) (tag : Tag) (bytes : List ℕ) → Has (write_said number at to tag bytes) T.out → LiesAs (mapped_in w tag.file tag.page) (record { at = at; birth = tag.birth })) where
    -- one write
    module _ (pre rest : List Output) (number : ℕ) (at to : BlockAt) (tag : Tag) (bytes : List ℕ) (parts : pre ++ write_said number at to tag bytes ∷ rest ≡ T.out) where
      abbrev w1 : World
      w1 = (at_pre pre).world

      abbrev b : Association
      b = alone.b w c old site input there same runs lives counts placed once asks k count past h open_ copies flush served pre rest number at to tag bytes parts

      here : Has b M.node.state.associations
      here = alone.here w c old site input there same runs lives counts placed once asks k count past h open_ copies flush served pre rest number at to tag bytes parts

      its : Has (write_said number at to tag bytes) T.out
      its = subst (Has (write_said number at to tag bytes)) parts (among pre)
        where
          among : (os : List Output) → Has (write_said number at to tag bytes) (os ++ write_said number at to tag bytes ∷ rest)
          among [] = inl refl
          among (y ∷ os) = inr (among os)

      server : tag.file.server ≡ b.server
      server = (alone.on_b w c old site input there same runs lives counts placed once asks k count past h open_ copies flush served pre rest number at to tag bytes parts).server

      file : Rattle.st_laws_reads.specs.Copies.Copies.file_at b.server tag.file.ino ≡ tag.file
      file = ap (λ (s : ServerId). record { server = s; ino = tag.file.ino }) (sym server)

      grown : LogGrows w1.log V.log
      grown =
          let u = (client_says_all (client c) site.node.state T.out S).world in
          let z = log_all (client c) site.node.state (write_said number at to tag bytes ∷ rest) (at_pre pre) in
          record {
            more = z.more;
            is = (flush_parts (client c) T.node.state (world.all_servers u) u).log ∙ ap (λ os. (client_says_all (client c) site.node.state os S).world.log) (sym parts) ∙ ap (λ (s : WorldTurn). s.world.log) (says_both (client c) site.node.state pre (write_said number at to tag bytes ∷ rest) S) ∙ z.is;
          }

      servers : w1.servers ≡ w.servers
      servers = (grows_all (client c) site.node.state pre S).servers

      life : life_with M.node.state (server_of_disk w1 at) ≡ b.life
      life =
          alone.life_there w c old site input there same runs lives counts placed once asks k count past h open_ copies flush served b here (server_of_disk w1 at)
          (ap (λ n. world.server (pred at.disk.0 % n + 1)) (ap (λ (xs : List Rattle.st_rules.specs.Server.ServerNode). length xs) servers)
          ∙ ap (λ n. world.server n) (placed_at (length w.servers) T.out placed number at to tag bytes its) ∙ server)

      own : OnlyOwn (owner (client c) (life_with M.node.state (server_of_disk w1 at)) tag.file tag.page) tag.file tag.page w1.log
      own =
          own_front (owner (client c) (life_with M.node.state (server_of_disk w1 at)) tag.file tag.page) tag.file tag.page w1.log grown.more
          (subst (OnlyOwn (owner (client c) (life_with M.node.state (server_of_disk w1 at)) tag.file tag.page) tag.file tag.page) grown.is
          (subst (λ l. OnlyOwn (owner (client c) l tag.file tag.page) tag.file tag.page V.log) (sym life)
          (subst (λ f. OnlyOwn (owner (client c) b.life f tag.page) f tag.page V.log) file
          (own_law asks k count V c M b tag.file.ino tag.page h.all copies frozen_lives cuts (record { there = alone.own w c old site input there same runs lives counts placed once; runs = runs }) here
          (alone.lasts w c old site input there same runs lives counts placed once asks k count past h open_ copies flush served pre rest number at to tag bytes parts)
          (let m = alone.mode w c old site input there same runs lives counts placed once asks k count past h open_ copies flush served pre rest number at to tag bytes parts in omega (arith, m))))))

      right_write : FineWrite w1 (client c) (life_with M.node.state (server_of_disk w1 at)) at to tag → bytes ≡ log.content w1.log tag.file tag.page → SubmitRight (TimelyIn w) w1 (client c) (life_with M.node.state (server_of_disk w1 at)) at to tag bytes
      right_write f e =
          let l = lies number at to tag bytes its in
          record {
            place = f.place;
            are = e;
            last = f.last;
            of = f.of;
            own = own;
            alone = λ j y a g ct living place. alone.alone w c old site input there same runs lives counts placed once asks k count past h open_ copies flush served pre rest number at to tag bytes parts j y a g ct living place;
            extent = l.extent;
            is = ap (λ ns. Rattle.st_laws_pages.specs.Disks.World.mapped_at tag.file tag.page (numbered ns tag.file.server.0)) servers ∙ l.is;
            at_is = l.at;
            born = l.birth;
          }

    -- one output
    owes_one : (pre rest : List Output) (o : Output) (last : Option Output) (ls : ServerId → Life) → pre ++ o ∷ rest ≡ T.out → FineOne (at_pre pre).world (client c) o → RightOne (asks c) (client c) ls last (at_pre pre).world.log o → OwesOne (TimelyIn w) (at_pre pre).world (client c) o
    owes_one pre rest (outputs.Send m) last ls parts f r = tt
    owes_one pre rest (outputs.Answer op a) last ls parts f r = tt
    owes_one pre rest (outputs.Note n) last ls parts f r = tt
    owes_one pre rest (outputs.Submit number at what) last ls parts f r = go what parts (site_of (at_pre pre).world (client c)) own1 f r
      where
        own1 : site_of (at_pre pre).world (client c) ≡ Some M
        own1 = ap (λ z. numbered z c) (grows_all (client c) site.node.state pre S).clients ∙ alone.first w c old site input there same runs lives counts placed once

        go : (what : Command) → pre ++ outputs.Submit number at what ∷ rest ≡ T.out → (o : Option WorldClient) → o ≡ Some M → FineSubmit (at_pre pre).world (client c) o at what → RightOne (asks c) (client c) ls last (at_pre pre).world.log (outputs.Submit number at what) →
            SubmitsRight (TimelyIn w) (at_pre pre).world (client c) o at what
        go what parts None q f r = cc q
        go (commands.Read to) parts (Some s) q f r = tt
        go (commands.Write to tag bytes) parts (Some s) q f r =
            subst (λ (z : WorldClient). SubmitsRight (TimelyIn w) (at_pre pre).world (client c) (Some z) at (commands.Write to tag bytes)) (sym (some_is q))
            (right_write pre rest number at to tag bytes parts (subst (λ (z : WorldClient). FineSubmit (at_pre pre).world (client c) (Some z) at (commands.Write to tag bytes)) (some_is q) f) r)

    owes_from : (pre rest : List Output) (last : Option Output) → pre ++ rest ≡ T.out → EachFine (client c) site.node.state (at_pre pre) rest → RightBehind (asks c) (client c) (present_life (at_pre pre).world (client c)) last (at_pre pre).world.log rest →
        Owes (TimelyIn w) (client c) site.node.state (at_pre pre) rest
    owes_from pre [] last parts f r = record {}
    owes_from pre (o ∷ rest) last parts f r =
        record {
          one = owes_one pre rest o last (present_life (at_pre pre).world (client c)) parts f.one r.one;
          rest = subst (λ s. Owes (TimelyIn w) (client c) site.node.state s rest) next
              (owes_from (pre ++ o ∷ []) rest (Some o) (append_one pre rest o ∙ parts) (subst (λ s. EachFine (client c) site.node.state s rest) (sym next) f.rest)
              (subst (λ (s : WorldTurn). RightBehind (asks c) (client c) (present_life s.world (client c)) (Some o) s.world.log rest) (sym next) right));
        }
      where
        next : at_pre (pre ++ o ∷ []) ≡ client_says (at_pre pre) (client c) site.node.state o
        next = says_next (client c) site.node.state pre o S

        right : RightBehind (asks c) (client c) (present_life (client_says (at_pre pre) (client c) site.node.state o).world (client c)) (Some o) (client_says (at_pre pre) (client c) site.node.state o).world.log rest
        right =
            let told = told_one (client c) site.node.state o (at_pre pre) in
            subst (λ ls. RightBehind (asks c) (client c) ls (Some o) (client_says (at_pre pre) (client c) site.node.state o).world.log rest) (sym (lives_same (client c) (at_pre pre).world (client_says (at_pre pre) (client c) site.node.state o).world told.clients))
            (subst (λ es. RightBehind (asks c) (client c) (present_life (at_pre pre).world (client c)) (Some o) es rest) (sym told.log) r.rest)

    pub owes : EachFine (client c) site.node.state S T.out → Right (asks c) (client c) (present_life S.world (client c)) w.log T.out → Owes (TimelyIn w) (client c) site.node.state S T.out
    unfolding client_says_all
    owes f r = owes_from [] T.out None refl f r
