-- All associations of a client, through changes at one of its servers: what holds of each, and whose the latest entries of its dirty pages are, in the world
-- after the outputs so far.
use Rattle.st_lemmas.proofs.Words
use Words.{◌≡◌, ℕ, ◌⊎◌, Bool, true, false, List, [], ◌∷◌, ◌++◌, Option, Some, None, refl, sym, ap, ◌∙◌, subst, inl, inr, map, length, ClientId, ServerId, Stamp}
use Words.{PageCommand, DiskCommand, LogEntry, Carried, IssuedCommand}
use Words.io
use Words.Disks as disks
use Words.Client as cl
use Words.ClientState.{Association, ClientState, ClientTurn, Turn, enter, leave, at_these, at_each, with_associations}
use Words.World.{WorldClient, numbered, site_of, life_with}
use Words.Events.{WorldTurn}
use Words.Safety.{Step}
use Words.Lists.{Has}
use Rattle.st_laws_steps.specs.Client.Client.{Changes, Still, Then}
use Rattle.st_laws_steps.specs.Client.Losses.{Fit, Ends, Unknown, Passes, Hardens, Fails}
use Rattle.st_laws_steps.specs.Lives.Lives.{Once, server_number}
use Rattle.st_laws_pages.specs.Flush.Flush.{IsIts, Cared, NumbersBelow, NumbersApart}
use Rattle.st_laws_steps.proofs.Client.Nexts.{Next, change_next, changes_next}
use Rattle.st_laws_pages.proofs.Flush.Ending.{apart_fewer, ends_cared}
use Rattle.st_laws_pages.proofs.Flush.Reporting.{failure_owed}
use Rattle.st_laws_pages.proofs.Flush.Growing.{Adds}
use Rattle.st_laws_pages.proofs.Flush.Adding.{Grows, grows_none, grows_then, After, after_numbered, after_disk}
use Rattle.st_laws_steps.proofs.Client.Losing.{Finished, rest_of}
use Rattle.st_laws_pages.proofs.Flush.Keeping.{Around, OfOthers, Told, change_around}
use Rattle.st_laws_pages.specs.Causes.Invariants.{CommandsStand, LatestOwn}
use Rattle.st_laws_pages.proofs.Causes.Commands.{says_stand}
use Rattle.st_laws_pages.proofs.Causes.Latest.{change_apart as change_elsewhere, change_latest, ends_latest, success_own}
use Rattle.st_laws_pages.proofs.Causes.Placed.{Placed}
use Rattle.st_laws_pages.proofs.Causes.Saying.{change_adds, placed_grown}
use Rattle.st_laws_pages.proofs.Lives.Among.{has_mid, has_others, has_split, numbers_kept, others_apart}

-- What holds in the middle of a step, with whose the latest entries of dirty pages are.
pub record Cares (past : List Step) (cs : List IssuedCommand) (es : List LogEntry) (c : ClientId) (starts : ℕ) (t : Turn) (others : List Association) : Type 0 where
  pub around : Around past cs es c starts t others
  pub latest_here : LatestOwn c es t.here
  pub latests : (b : Association) → Has b others → LatestOwn c es b

-- Lists of changes, and ends of commands, in the world after the outputs.
module _ (past : List Step) (size : ℕ) (c : ClientId) (before : ClientState) (sc : WorldTurn) (site : WorldClient) (there : site_of sc.world c ≡ Some site) (count : length sc.world.servers ≡ size) (holds : CommandsStand sc.world.log sc.world.commands sc.world.disks.commands) (now : Stamp) where
  abbrev pub In : Turn → List Association → Type 0
  In t others = Cares past (After c before sc t.out).world.commands (After c before sc t.out).world.log c site.starts t others

  abbrev cs_in : Turn → List IssuedCommand
  cs_in t = (After c before sc t.out).world.commands

  abbrev es_in : Turn → List LogEntry
  es_in t = (After c before sc t.out).world.log

  -- the association has the life under which its pages are accepted
  abbrev pub RightLife : Association → Type 0
  RightLife a = life_with site.node.state a.server ≡ a.life

  pub right_next : (a b : Association) → a.server ≡ b.server → a.life ≡ b.life → RightLife a → RightLife b
  right_next a b s l h = ap (life_with site.node.state) (sym s) ∙ h ∙ l

  pub others_next : (s t : ServerId) (others : List Association) → s ≡ t → OfOthers s others → OfOthers t others
  others_next s t others e h b i z = h b i (z ∙ ap (λ (x : ServerId). x.0) (sym e))

  pub changes_around : (t u : Turn) → Changes now t u → (others : List Association) → OfOthers t.here.server others → RightLife t.here → Placed size u.out → In t others → In u others
  changes_around t _ (Still _) others n live h r = r
  changes_around t _ (Then _ u v ch rest) others n live h r =
      changes_around u v rest others (others_next t.here.server u.here.server others x.server n) (right_next t.here u.here x.server x.life live) h
      (record {
        around = change_around past c site.starts now t u ch others n (cs_in t) (cs_in u) (es_in t) (es_in u) z r.around;
        latest_here = change_latest c now t u ch (cs_in t) (cs_in u) (es_in t) (es_in u) z r.latest_here;
        latests = λ b i. change_elsewhere c now t u ch (cs_in t) (cs_in u) (es_in t) (es_in u) b (n b i) z (r.latests b i);
      })
    where
      x : Next now t u
      x = change_next now t u ch

      y : Next now u v
      y = changes_next now u v rest

      z : Adds c now t u ch (cs_in t) (cs_in u) (es_in t) (es_in u)
      z = change_adds size c before sc site there count now t u ch live (placed_grown size u.out v.out (record { more = y.more; out = y.out }) h)

  -- the end of a command
  silent : (number : ℕ) (ok : Bool) (t u : Turn) → Ends number ok t u → (u.out ≡ t.out) × (u.next_command ≡ t.next_command) × (u.here.server ≡ t.here.server) × (u.here.life ≡ t.here.life)
  unfolding cl.hardened
  silent number ok t _ Unknown = (refl, refl, refl, refl)
  silent number ok t _ (Passes pc e o) = (refl, refl, refl, refl)
  silent number ok t _ (Hardens pc v e o k w) = (refl, refl, refl, refl)
  silent number ok t _ (Fails pc v e o k w) = (refl, refl, refl, refl)

  ends_apart : (number : ℕ) (ok : Bool) (t u : Turn) → Ends number ok t u → NumbersApart t.here.store.commands → NumbersApart u.here.store.commands
  unfolding cl.hardened
  ends_apart number ok t _ Unknown h = h
  ends_apart number ok t _ (Passes pc e o) h = apart_fewer _ t.here.store.commands h
  ends_apart number ok t _ (Hardens pc v e o k w) h = apart_fewer _ t.here.store.commands h
  ends_apart number ok t _ (Fails pc v e o k w) h = apart_fewer _ t.here.store.commands h

  ends_around : (number : ℕ) (ok : Bool) (t u : Turn) → Ends number ok t u → Told past sc c site.starts number ok → (others : List Association) → Placed size t.out → In t others → In u others
  ends_around number ok t u e told others h r = moved (silent number ok t u e)
    where
      cs : List IssuedCommand
      cs = (After c before sc t.out).world.commands

      es : List LogEntry
      es = (After c before sc t.out).world.log

      ds : List DiskCommand
      ds = (After c before sc t.out).world.disks.commands

      is : numbered cs told.k ≡ Some told.command
      is = after_numbered c before t.out sc told.k told.command told.is

      held : CommandsStand es cs ds
      held = says_stand c before t.out sc holds

      its : (pc : PageCommand) → pc.number ≡ number → IsIts c site.starts pc.number told.command
      its pc n = let z = told.its in record { client = z.client; instance_ = z.instance_; number_is = z.number_is ∙ sym n }

      failure : (pc : PageCommand) → Has pc t.here.store.commands → pc.number ≡ number → (v : ℕ) → pc.kind ≡ io.Write v → ok ≡ false → Rattle.st_laws_pages.proofs.Flush.Ending.FailureOwed past cs es c t.here pc v
      failure pc i n v k f = failure_owed past cs es c site.starts t.next_command t.here told.k told.command is (told.failed f) r.around.here pc i (its pc n) v k

      success : (pc : PageCommand) → Has pc t.here.store.commands → pc.number ≡ number → (v : ℕ) → pc.kind ≡ io.Write v → ok ≡ true → Rattle.st_laws_pages.proofs.Flush.Ending.SuccessOwed es c t.here pc v
      success pc i n v k f = go (told.done f)
        where
          carried : (x : Option Carried) → told.command.carries ≡ x → x ≡ None → ⊥
          carried x p q = no (sym ((r.around.here.writes pc i v k).world told.k told.command is (its pc n)).carries ∙ p ∙ q)
            where
              no : {y : Carried} → Some y ≡ None → ⊥
              no z = cc

          go : (d : DiskCommand) × (disks.command_at sc.world.disks.commands told.k ≡ Some d) × (d.effected ≡ true) → Rattle.st_laws_pages.proofs.Flush.Ending.SuccessOwed es c t.here pc v
          go (d, j, g) = by d.what refl
            where
              there_is : disks.command_at ds told.k ≡ Some d
              there_is = after_disk c before t.out sc told.k d j

              by : (w : Rattle.st_base.specs.declared.disk.Command.Command) → d.what ≡ w → Rattle.st_laws_pages.proofs.Flush.Ending.SuccessOwed es c t.here pc v
              by (Rattle.st_base.specs.declared.disk.Command.TheVariants.Read at) w = absurd (carried told.command.carries refl (held.reads told.k told.command d at is there_is w))
              by (Rattle.st_base.specs.declared.disk.Command.TheVariants.Write at tag bytes) w =
                  success_own past cs es c site.starts t.next_command t.here ds told.k told.command d at tag bytes is there_is w g held r.latest_here r.around.here pc i (its pc n) v k

      cared : Cared past cs es c site.starts t.next_command u.here
      cared = ends_cared past cs es c site.starts t.next_command number ok t u e r.around.apart failure success r.around.here

      moved : (u.out ≡ t.out) × (u.next_command ≡ t.next_command) × (u.here.server ≡ t.here.server) × (u.here.life ≡ t.here.life) → In u others
      moved (o, n, sv, lf) =
          subst (λ os. Cares past (After c before sc os).world.commands (After c before sc os).world.log c site.starts u others) (sym o)
          (record {
            around =
                record {
                  here = subst (λ m. Cared past cs es c site.starts m u.here) (sym n) cared;
                  cared = λ b i. subst (λ m. Cared past cs es c site.starts m b) (sym n) (r.around.cared b i);
                  apart = ends_apart number ok t u e r.around.apart;
                  aparts = r.around.aparts;
                  numbers = subst (λ m. NumbersBelow cs c site.starts m) (sym n) r.around.numbers;
                };
            latest_here = ends_latest c number ok t u e es r.latest_here;
            latests = r.latests;
          })

  pub finished_around : (number : ℕ) (ok : Bool) (t u : Turn) → Finished now number ok t u → Told past sc c site.starts number ok → (others : List Association) → OfOthers t.here.server others → RightLife t.here → Placed size u.out → In t others → In u others
  finished_around number ok t u f told others n live h r =
      changes_around f.mid u (rest_of f) others (others_next t.here.server f.mid.here.server others (sym s.2) n) (right_next t.here f.mid.here (sym s.2) (sym s.3) live) h
      (ends_around number ok t f.mid f.ends told others (subst (Placed size) s.0 (placed_grown size f.mid.out u.out (record { more = y.more; out = y.out }) h)) r)
    where
      s : (f.mid.out ≡ t.out) × (f.mid.next_command ≡ t.next_command) × (f.mid.here.server ≡ t.here.server) × (f.mid.here.life ≡ t.here.life)
      s = silent number ok t f.mid f.ends

      y : Next now f.mid u
      y = changes_next now f.mid u (rest_of f)

  -- A rule at each server in turn.

  -- what holds of a list of associations, in the middle of a step
  pub record All (t : ClientTurn) (al : List Association) : Type 0 where
    pub cared : (b : Association) → Has b al → Cared past (After c before sc t.out).world.commands (After c before sc t.out).world.log c site.starts t.state.next_command b
    pub apart : (b : Association) → Has b al → NumbersApart b.store.commands
    pub numbers : NumbersBelow (After c before sc t.out).world.commands c site.starts t.state.next_command
    pub right : (b : Association) → Has b al → RightLife b
    pub once : Once (map server_number al)
    pub fit : (b : Association) → Has b al → Fit b
    pub latests : (b : Association) → Has b al → LatestOwn c (After c before sc t.out).world.log b

  -- with one of them after the rule
  pub all_left : (t : ClientTurn) (a : Association) (rest : List Association) (u : Turn) → Next now (enter t a) u → In u (t.state.associations ++ rest) → All t (t.state.associations ++ a ∷ rest) → All (leave t u) ((t.state.associations ++ u.here ∷ []) ++ rest)
  all_left t a rest u x r h =
      record {
        cared = λ b i. each b (λ z. Cared past (After c before sc u.out).world.commands (After c before sc u.out).world.log c site.starts u.next_command z) r.around.here (r.around.cared b) (has_split t.state.associations rest u.here b i);
        apart = λ b i. each b (λ z. NumbersApart z.store.commands) r.around.apart (r.around.aparts b) (has_split t.state.associations rest u.here b i);
        numbers = r.around.numbers;
        right = λ b i. each b RightLife (right_next a u.here x.server x.life (h.right a (has_mid t.state.associations rest a))) (λ j. h.right b (has_others t.state.associations rest a b j)) (has_split t.state.associations rest u.here b i);
        once = subst Once (sym (numbers_kept t.state.associations rest a u.here (sym x.server))) h.once;
        fit = λ b i. each b Fit (x.fit (h.fit a (has_mid t.state.associations rest a))) (λ j. h.fit b (has_others t.state.associations rest a b j)) (has_split t.state.associations rest u.here b i);
        latests = λ b i. each b (λ z. LatestOwn c (After c before sc u.out).world.log z) r.latest_here (r.latests b) (has_split t.state.associations rest u.here b i);
      }
    where
      each : (b : Association) (P : Association → Type 0) → P u.here → (Has b (t.state.associations ++ rest) → P b) → Has b (t.state.associations ++ rest) ⊎ (b ≡ u.here) → P b
      each b P p f (inl j) = f j
      each b P p f (inr e) = subst P (sym e) p

  pub these_grow : (rule : Turn → Turn) → ((t : Turn) → Fit t.here → Next now t (rule t)) → (al : List Association) (t : ClientTurn) → ((b : Association) → Has b al → Fit b) → Grows t.out (at_these rule al t).out
  unfolding at_these
  these_grow rule next [] t f = grows_none t.out
  these_grow rule next (a ∷ rest) t f =
      let x = next (enter t a) (f a (inl refl)) in
      grows_then t.out (rule (enter t a)).out (at_these rule rest (leave t (rule (enter t a)))).out (record { more = x.more; out = x.out }) (these_grow rule next rest (leave t (rule (enter t a))) (λ b i. f b (inr i)))

  these_all : (rule : Turn → Turn) → ((t : Turn) → Fit t.here → Next now t (rule t)) →
      ((t : Turn) → Fit t.here → (others : List Association) → OfOthers t.here.server others → RightLife t.here → Placed size (rule t).out → In t others → In (rule t) others) →
      (al : List Association) (t : ClientTurn) → Placed size (at_these rule al t).out → All t (t.state.associations ++ al) → All (at_these rule al t) (at_these rule al t).state.associations
  unfolding at_these
  these_all rule next step [] t o h = subst (All t) (none t.state.associations) h
    where
      none : (xs : List Association) → xs ++ [] ≡ xs
      none [] = refl
      none (x ∷ xs) = ap (λ z. x ∷ z) (none xs)
  these_all rule next step (a ∷ rest) t o h =
      these_all rule next step rest (leave t u) o
      (all_left t a rest u x
      (step (enter t a) fit (t.state.associations ++ rest) (others_apart t.state.associations rest a h.once) (h.right a (has_mid t.state.associations rest a)) (placed_grown size u.out (at_these rule rest (leave t u)).out grown o)
      (record {
        around =
            record {
              here = h.cared a (has_mid t.state.associations rest a);
              cared = λ b i. h.cared b (has_others t.state.associations rest a b i);
              apart = h.apart a (has_mid t.state.associations rest a);
              aparts = λ b i. h.apart b (has_others t.state.associations rest a b i);
              numbers = h.numbers;
            };
        latest_here = h.latests a (has_mid t.state.associations rest a);
        latests = λ b i. h.latests b (has_others t.state.associations rest a b i);
      })) h)
    where
      u : Turn
      u = rule (enter t a)

      fit : Fit a
      fit = h.fit a (has_mid t.state.associations rest a)

      x : Next now (enter t a) u
      x = next (enter t a) fit

      behind : (done : List Association) (b : Association) → Has b rest → Has b (done ++ a ∷ rest)
      behind [] b i = inr i
      behind (d ∷ done) b i = inr (behind done b i)

      grown : Grows u.out (at_these rule rest (leave t u)).out
      grown = these_grow rule next rest (leave t u) (λ b i. h.fit b (behind t.state.associations b i))

  pub each_all : (rule : Turn → Turn) → ((t : Turn) → Fit t.here → Next now t (rule t)) →
      ((t : Turn) → Fit t.here → (others : List Association) → OfOthers t.here.server others → RightLife t.here → Placed size (rule t).out → In t others → In (rule t) others) →
      (t : ClientTurn) → Placed size (at_each rule t).out → All t t.state.associations → All (at_each rule t) (at_each rule t).state.associations
  unfolding at_each
  each_all rule next step t o h = these_all rule next step t.state.associations (with_associations [] t) o (record { cared = h.cared; apart = h.apart; numbers = h.numbers; right = h.right; once = h.once; fit = h.fit; latests = h.latests })

  pub each_grows : (rule : Turn → Turn) → ((t : Turn) → Fit t.here → Next now t (rule t)) → (t : ClientTurn) → ((b : Association) → Has b t.state.associations → Fit b) → Grows t.out (at_each rule t).out
  unfolding at_each
  each_grows rule next t f = these_grow rule next t.state.associations (with_associations [] t) f
