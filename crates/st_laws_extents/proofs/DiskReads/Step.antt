-- Outstanding reads through a whole step of a client.
use Rattle.st_lemmas.proofs.Words
use Words.{◌≡◌, ℕ, ◌≤◌, ◌⊎◌, Bool, true, false, List, [], ◌∷◌, ◌++◌, Option, Some, None, refl, sym, ap, ◌∙◌, subst, inl, inr, arith, filter, find, map}
use Words.{ClientId, FileId, PageNo, ServerId, Stamp, AppAnswer, Note, Output, ClientInput, PageCommand, DirtyPage}
use Words.answers
use Words.notes
use Words.outputs
use Words.io
use Words.Client as cl
use Words.ClientPages as pages
use Words.ClientPasses as cp
use Words.ClientReplies as cr
use Words.ClientState.{Association, ClientState, ClientTurn, Turn, at_each, at_these, client_turn, enter, leave, only_at, server_of, with_associations}
use Words.Lists.{Has}
use Words.Tables.{has_append, has_filter}
use Words.Lengths.{nothing_after}
use Rattle.st_laws_steps.specs.Client.Client.{ChangesPage}
use Rattle.st_laws_steps.specs.Client.Inputs as taking
use Rattle.st_laws_steps.specs.Client.Inputs.{Taken}
use Rattle.st_laws_steps.specs.Lives.Lives.{Once, server_number}
use Rattle.st_laws_steps.specs.Client.Losses.{Ends, Fails, Fit, Hardens, Passes, Unknown, is_ended}
use Rattle.st_laws_pages.proofs.Flush.Adding.{AllStill}
use Rattle.st_laws_steps.proofs.Client.Asking.{changes_by_passes}
use Rattle.st_laws_steps.proofs.Lives.Associations.{numbers_same}
use Rattle.st_laws_pages.proofs.Flush.Flushing.{pair_of}
use Rattle.st_laws_steps.proofs.Client.Taking.{taken}
use Rattle.st_laws_steps.proofs.Client.Losing.{Finished, changes_by_only, finish_is, is_done, rest_of}
use Rattle.st_laws_steps.proofs.Client.Nexts.{Next, changes_next, found_fewer, failed_found}
use Rattle.st_laws_steps.proofs.Client.Replying.{changes_by_receive}
use Rattle.st_laws_steps.proofs.Client.Stepping.{LossesLeft, LostOrNot, finish_next, losses_left, pairs_has}
use Rattle.st_laws_pages.proofs.Flush.Quiet.{AllQuiet, losses_quiet}
use Rattle.st_laws_extents.specs.DiskReads.OutstandingReads.{ReadsClean, ReadsKept, Unchanged}
use Rattle.st_laws_extents.proofs.DiskReads.Rules.{both_of, changes_kept}
use Rattle.st_laws_pages.proofs.Lives.Among.{has_mid, has_others, has_split, numbers_kept, others_apart}

-- The end of a command.
none_fewer : (p q : DirtyPage → Bool) (xs : List DirtyPage) → find p xs ≡ None → find p (filter q xs) ≡ None
none_fewer p q xs e = go (find p (filter q xs)) refl
  where
    no : (d : DirtyPage) → ◌≡◌ {A = Option DirtyPage} None (Some d) → ⊥
    no d z = cc

    go : (o : Option DirtyPage) → find p (filter q xs) ≡ o → o ≡ None
    go None f = refl
    go (Some d) f = let z = found_fewer p q xs d f in absurd (no z.0 (sym e ∙ z.1))

none_failed : (i : ℕ) (r : PageNo) (n ino : ℕ) (p : PageNo) (xs : List DirtyPage) → find (pages.is_dirty_of ino p) xs ≡ None → find (pages.is_dirty_of ino p) (map (pages.fail_of i r n) xs) ≡ None
none_failed i r n ino p xs e = go (find (pages.is_dirty_of ino p) (map (pages.fail_of i r n) xs)) refl
  where
    no : (d : DirtyPage) → ◌≡◌ {A = Option DirtyPage} None (Some d) → ⊥
    no d z = cc

    go : (o : Option DirtyPage) → find (pages.is_dirty_of ino p) (map (pages.fail_of i r n) xs) ≡ o → o ≡ None
    go None f = refl
    go (Some d) f = let z = failed_found i r n ino p xs d f in absurd (no z.0 (sym e ∙ z.1))

ends_kept : (now : Stamp) (number : ℕ) (ok : Bool) (t u : Turn) → Ends number ok t u → ReadsKept now t u
unfolding cl.hardened pages.harden pages.harden_at pages.harden_page pages.fail pages.failed_by
ends_kept now number ok t _ Unknown = record { low = omega arith; server = refl; more = []; out = nothing_after t.out; notes = λ n i f p h. absurd i; reads = λ pc i k. inl (i, λ n j f p h s x y. absurd j); clean = λ h. h }
ends_kept now number ok t _ (Passes pc e o) =
    record {
      low = omega arith;
      server = refl;
      more = [];
      out = nothing_after t.out;
      notes = λ n i f p h. absurd i;
      reads = λ c i k. inl ((has_filter _ t.here.store.commands c i).0, λ n j f p h s x y. absurd j);
      clean = λ h c i k. h c (has_filter _ t.here.store.commands c i).0 k;
    }
ends_kept now number ok t _ (Hardens pc v e o k w) =
    record {
      low = omega arith;
      server = refl;
      more = [];
      out = nothing_after t.out;
      notes = λ n i f p h. absurd i;
      reads = λ c i k. inl ((has_filter _ t.here.store.commands c i).0, λ n j f p h s x y. absurd j);
      clean = λ h c i k. let z = h c (has_filter _ t.here.store.commands c i).0 k in (gone c.ino c.page (pages.dirty_of t.here.store.pages pc.ino pc.page) z.0, z.1);
    }
  where
    gone : (ino : ℕ) (p : PageNo) (o : Option DirtyPage) → pages.dirty_of t.here.store.pages ino p ≡ None → pages.dirty_of (pages.harden_at t.here.store.pages o) ino p ≡ None
    gone ino p None z = z
    gone ino p (Some d) z = none_fewer (pages.is_dirty_of ino p) _ t.here.store.pages.dirty z
ends_kept now number ok t _ (Fails pc v e o k w) =
    record {
      low = omega arith;
      server = refl;
      more = [];
      out = nothing_after t.out;
      notes = λ n i f p h. absurd i;
      reads = λ c i k. inl ((has_filter _ t.here.store.commands c i).0, λ n j f p h s x y. absurd j);
      clean = λ h c i k. let z = h c (has_filter _ t.here.store.commands c i).0 k in (none_failed pc.ino pc.page pc.number c.ino c.page t.here.store.pages.dirty z.0, z.1);
    }

finished_kept : (now : Stamp) (number : ℕ) (ok : Bool) (t u : Turn) → Finished now number ok t u → ReadsKept now t u
finished_kept now number ok t u f = both_of now t f.mid u (ends_kept now number ok t f.mid f.ends) (changes_kept now f.mid u (rest_of f))

-- All associations, from where the reads were outstanding first.
module _ (start : List Association) (n0 : ℕ) (now : Stamp) where
  -- an outstanding read was so at the start
  pub record WasRead (b : Association) (pc : PageCommand) : Type 0 where
    pub a : Association
    pub among : Has a start
    pub server : a.server ≡ b.server
    pub life : a.life ≡ b.life
    pub command : Has pc a.store.commands

  pub record ReadsFine (b : Association) (os : List Output) : Type 0 where
    pub clean : ReadsClean b.store
    pub reads : (pc : PageCommand) → Has pc b.store.commands → pc.kind ≡ io.Read → (WasRead b pc × Unchanged b.server pc os) ⊎ (n0 ≤ pc.number)

  pub record All (t : ClientTurn) (al : List Association) : Type 0 where
    pub low : n0 ≤ t.state.next_command
    pub once : Once (map server_number al)
    pub fit : (b : Association) → Has b al → Fit b
    pub fine : (b : Association) → Has b al → ReadsFine b t.out

  unchanged_both : (sv : ServerId) (pc : PageCommand) (os ps : List Output) → Unchanged sv pc os → Unchanged sv pc ps → Unchanged sv pc (os ++ ps)
  unchanged_both sv pc os ps a b n i f p h s x y = go (has_append os ps (outputs.Note n) i)
    where
      go : Has (outputs.Note n) os ⊎ Has (outputs.Note n) ps → ⊥
      go (inl j) = a n j f p h s x y
      go (inr j) = b n j f p h s x y

  -- at the server of a rule
  own_fine : (t u : Turn) (sv : u.here.server ≡ t.here.server) (life : t.here.life ≡ u.here.life) → n0 ≤ t.next_command → ReadsKept now t u → ReadsFine t.here t.out → ReadsFine u.here u.out
  own_fine t u sv life low k h = record { clean = k.clean h.clean; reads = λ pc i r. later pc (k.reads pc i r) r }
    where
      first : (pc : PageCommand) → Unchanged t.here.server pc k.more → (WasRead t.here pc × Unchanged t.here.server pc t.out) ⊎ (n0 ≤ pc.number) → (WasRead u.here pc × Unchanged u.here.server pc u.out) ⊎ (n0 ≤ pc.number)
      first pc q (inr l) = inr l
      first pc q (inl w) =
          inl (
            record { a = w.0.a; among = w.0.among; server = w.0.server ∙ sym sv; life = w.0.life ∙ life; command = w.0.command },
            subst (λ s. Unchanged s pc u.out) (sym sv) (subst (Unchanged t.here.server pc) (sym k.out) (unchanged_both t.here.server pc t.out k.more w.1 q)),
          )

      later : (pc : PageCommand) → (Has pc t.here.store.commands × Unchanged t.here.server pc k.more) ⊎ (t.next_command ≤ pc.number) → pc.kind ≡ io.Read → (WasRead u.here pc × Unchanged u.here.server pc u.out) ⊎ (n0 ≤ pc.number)
      later pc (inr l) r = inr (omega (arith, low, l))
      later pc (inl w) r = first pc w.1 (h.reads pc w.0 r)

  -- at another server
  other_fine : (t u : Turn) (b : Association) → (b.server.0 ≡ t.here.server.0 → ⊥) → ReadsKept now t u → ReadsFine b t.out → ReadsFine b u.out
  other_fine t u b n k h = record { clean = h.clean; reads = λ pc i r. go pc (h.reads pc i r) }
    where
      go : (pc : PageCommand) → (WasRead b pc × Unchanged b.server pc t.out) ⊎ (n0 ≤ pc.number) → (WasRead b pc × Unchanged b.server pc u.out) ⊎ (n0 ≤ pc.number)
      go pc (inr l) = inr l
      go pc (inl w) =
          inl (w.0, subst (Unchanged b.server pc) (sym k.out) (unchanged_both b.server pc t.out k.more w.1 (λ m i f p h sv x y. n (ap (λ (s : ServerId). s.0) (sym sv ∙ k.notes m i f p h)))))

  all_left : (t : ClientTurn) (a : Association) (rest : List Association) (u : Turn) → Next now (enter t a) u → ReadsKept now (enter t a) u → All t (t.state.associations ++ a ∷ rest) → All (leave t u) ((t.state.associations ++ u.here ∷ []) ++ rest)
  all_left t a rest u x k h =
      record {
        low = let l = h.low in let m = k.low in omega (arith, l, m);
        once = subst Once (sym (numbers_kept t.state.associations rest a u.here (sym x.server))) h.once;
        fit = λ b i. each b Fit (x.fit (h.fit a (has_mid t.state.associations rest a))) (λ j. h.fit b (has_others t.state.associations rest a b j)) (has_split t.state.associations rest u.here b i);
        fine = λ b i. each b (λ z. ReadsFine z u.out) (own_fine (enter t a) u k.server x.life h.low k (h.fine a (has_mid t.state.associations rest a)))
            (λ j. other_fine (enter t a) u b (others_apart t.state.associations rest a h.once b j) k (h.fine b (has_others t.state.associations rest a b j))) (has_split t.state.associations rest u.here b i);
      }
    where
      each : (b : Association) (P : Association → Type 0) → P u.here → (Has b (t.state.associations ++ rest) → P b) → Has b (t.state.associations ++ rest) ⊎ (b ≡ u.here) → P b
      each b P p f (inl j) = f j
      each b P p f (inr e) = subst P (sym e) p

  these_all : (rule : Turn → Turn) → ((t : Turn) → Fit t.here → Next now t (rule t)) → ((t : Turn) → Fit t.here → ReadsKept now t (rule t)) → (al : List Association) (t : ClientTurn) → All t (t.state.associations ++ al) → All (at_these rule al t) (at_these rule al t).state.associations
  unfolding at_these
  these_all rule next keeps [] t h = subst (All t) (none t.state.associations) h
    where
      none : (xs : List Association) → xs ++ [] ≡ xs
      none [] = refl
      none (x ∷ xs) = ap (λ z. x ∷ z) (none xs)
  these_all rule next keeps (a ∷ rest) t h =
      let fit = h.fit a (has_mid t.state.associations rest a) in
      these_all rule next keeps rest (leave t (rule (enter t a))) (all_left t a rest (rule (enter t a)) (next (enter t a) fit) (keeps (enter t a) fit) h)

  pub each_all : (rule : Turn → Turn) → ((t : Turn) → Fit t.here → Next now t (rule t)) → ((t : Turn) → Fit t.here → ReadsKept now t (rule t)) → (t : ClientTurn) → All t t.state.associations → All (at_each rule t) (at_each rule t).state.associations
  unfolding at_each
  each_all rule next keeps t h = these_all rule next keeps t.state.associations (with_associations [] t) (record { low = h.low; once = h.once; fit = h.fit; fine = h.fine })

-- The whole step.
module _ (c : ClientId) (s : ClientState) (now : Stamp) (input : ClientInput) (fit : (a : Association) → Has a s.associations → Fit a) (once : Once (map server_number s.associations)) (clean : (a : Association) → Has a s.associations → ReadsClean a.store) where
  abbrev t : ClientTurn
  t = cl.losses (client_turn s []) now

  lost : LossesLeft c s now (client_turn s []) t
  lost = losses_left c s now (client_turn s []) refl fit

  quiet : AllQuiet (client_turn s []) t
  quiet = losses_quiet now s

  abbrev A : ClientTurn → Type 0
  A x = All t.state.associations s.next_command now x x.state.associations

  still_unchanged : (os : List Output) → AllStill os → (sv : ServerId) (pc : PageCommand) → Unchanged sv pc os
  still_unchanged [] h sv pc n i f p q a x y = absurd i
  still_unchanged (o ∷ os) h sv pc n (inr i) f p q a x y = still_unchanged os h.rest sv pc n i f p q a x y
  still_unchanged (outputs.Note (notes.Lost v l) ∷ os) h sv pc n (inl e) f p q a x y = no n q e
    where
      no : (n : Note) → ChangesPage f p n → outputs.Note n ≡ outputs.Note (notes.Lost v l) → ⊥
      no (notes.Accepted g r bytes) q z = cc
      no (notes.Patched g r at bytes) q z = cc
      no n q z = absurd q
  still_unchanged (outputs.Answer op z ∷ os) h sv pc n (inl e) f p q a x y = no e
    where
      no : outputs.Note n ≡ outputs.Answer op z → ⊥
      no w = cc
  still_unchanged (outputs.Note n2 ∷ os) h sv pc n (inl e) f p q a x y = absurd h.one
  still_unchanged (outputs.Send m ∷ os) h sv pc n (inl e) f p q a x y = absurd h.one
  still_unchanged (outputs.Submit k at w ∷ os) h sv pc n (inl e) f p q a x y = absurd h.one

  clean_t : (b : Association) → Has b t.state.associations → ReadsClean b.store
  clean_t b i = go (pair_of (LostOrNot s.config now) s.associations t.state.associations lost.pairs b i)
    where
      go : (a : Association) × Has a s.associations × LostOrNot s.config now a b → ReadsClean b.store
      go (a, j, r) = by (is_ended s.config now a.session) refl
        where
          by : (x : Bool) → is_ended s.config now a.session ≡ x → ReadsClean b.store
          by false e = subst (λ (z : Association). ReadsClean z.store) (r.lasts e) (clean a j)
          by true e = subst ReadsClean (sym (r.emptied e)) (λ pc k m. absurd k)

  begins : A t
  begins =
      record {
        low = (let z = quiet.next in omega (arith, z));
        once = subst Once (numbers_same (LostOrNot s.config now) (λ a b r. r.server) s.associations t.state.associations lost.pairs) once;
        fit = pairs_has (LostOrNot s.config now) Fit Fit (λ a b r. r.fit) s.associations t.state.associations lost.pairs fit;
        fine = λ b i.
            record {
              clean = clean_t b i;
              reads = λ pc j k. inl (record { a = b; among = i; server = refl; life = refl; command = j }, subst (Unchanged b.server pc) (sym quiet.out) (still_unchanged quiet.more quiet.still b.server pc));
            };
      }

  answered : (op : ℕ) (a : AppAnswer) → A t → A (cl.answered_at_once t op a)
  answered op a h =
      record {
        low = h.low;
        once = h.once;
        fit = h.fit;
        fine = λ b i. let g = h.fine b i in record { clean = g.clean; reads = λ pc j k. more b pc (g.reads pc j k) };
      }
    where
      no : (n : Note) → outputs.Note n ≡ outputs.Answer op a → ⊥
      no n z = cc

      more : (b : Association) (pc : PageCommand) → (WasRead t.state.associations s.next_command now b pc × Unchanged b.server pc t.out) ⊎ (s.next_command ≤ pc.number) → (WasRead t.state.associations s.next_command now b pc × Unchanged b.server pc (t.out ++ outputs.Answer op a ∷ [])) ⊎ (s.next_command ≤ pc.number)
      more b pc (inr l) = inr l
      more b pc (inl w) = inl (w.0, λ n i f p q sv x y. at n f p q sv x y (has_append t.out (outputs.Answer op a ∷ []) (outputs.Note n) i))
        where
          at : (n : Note) (f : FileId) (p : PageNo) → ChangesPage f p n → f.server ≡ b.server → f.ino ≡ pc.ino → p ≡ pc.page → Has (outputs.Note n) t.out ⊎ Has (outputs.Note n) (outputs.Answer op a ∷ []) → ⊥
          at n f p q sv x y (inl j) = w.1 n j f p q sv x y
          at n f p q sv x y (inr (inl e)) = no n e
          at n f p q sv x y (inr (inr j)) = absurd j

  input_all : (i : ClientInput) (u : ClientTurn) → Taken t now i u → A u
  input_all _ _ (taking.Nothing i) = begins
  input_all _ _ (taking.Full op ask e) = answered op answers.OpsFull begins
  input_all _ _ (taking.Unknown op ask e f) = answered op answers.NoFile begins
  input_all _ _ (taking.Takes op ask e f) =
      each_all t.state.associations s.next_command now (only_at (server_of ask) (cl.take_ask op ask)) (λ x f. changes_next now x _ (changes_by_only now (server_of ask) op ask x)) (λ x f. changes_kept now x _ (changes_by_only now (server_of ask) op ask x)) t begins
  input_all _ _ (taking.Receives m e) =
      each_all t.state.associations s.next_command now (cr.receive_at now m.header m.body) (λ y f. changes_next now y _ (changes_by_receive now m.header m.body y f.fresh)) (λ y f. changes_kept now y _ (changes_by_receive now m.header m.body y f.fresh)) t begins
  input_all _ _ (taking.Finishes number result) =
      each_all t.state.associations s.next_command now (cl.finish number result) (λ y f. finish_next now number result y) (λ y f. finished_kept now number (is_done result) y (cl.finish number result y) (finish_is now number result y)) t begins

  pub all_behind : A (cl.client_step s now input)
  unfolding cl.client_step cl.work
  all_behind =
      each_all t.state.associations s.next_command now (cp.passes now (cl.is_tick input)) (λ x f. changes_next now x _ (changes_by_passes now (cl.is_tick input) x)) (λ x f. changes_kept now x _ (changes_by_passes now (cl.is_tick input) x)) (cl.take_input t now input) (input_all input (cl.take_input t now input) (taken t now input))

  -- a read that is outstanding after the step was so before it, under a lease that lasted, and its page was not changed; or it is new
  pub record ReadStays (b : Association) (pc : PageCommand) : Type 0 where
    pub a : Association
    pub among : Has a s.associations
    pub lasted : is_ended s.config now a.session ≡ false
    pub server : a.server ≡ b.server
    pub life : a.life ≡ b.life
    pub command : Has pc a.store.commands
    pub unchanged : Unchanged b.server pc (cl.client_step s now input).out

  pub reads_behind : (b : Association) → Has b (cl.client_step s now input).state.associations → (pc : PageCommand) → Has pc b.store.commands → pc.kind ≡ io.Read → ReadStays b pc ⊎ (s.next_command ≤ pc.number)
  reads_behind b i pc j k = go ((all_behind.fine b i).reads pc j k)
    where
      go : (WasRead t.state.associations s.next_command now b pc × Unchanged b.server pc (cl.client_step s now input).out) ⊎ (s.next_command ≤ pc.number) → ReadStays b pc ⊎ (s.next_command ≤ pc.number)
      go (inr l) = inr l
      go (inl w) = inl (from (pair_of (LostOrNot s.config now) s.associations t.state.associations lost.pairs w.0.a w.0.among))
        where
          from : (a : Association) × Has a s.associations × LostOrNot s.config now a w.0.a → ReadStays b pc
          from (a, m, r) = by (is_ended s.config now a.session) refl
            where
              by : (x : Bool) → is_ended s.config now a.session ≡ x → ReadStays b pc
              by false e =
                  let q = r.lasts e in
                  record {
                    a = a;
                    among = m;
                    lasted = e;
                    server = r.server ∙ w.0.server;
                    life = ap (λ (z : Association). z.life) q ∙ w.0.life;
                    command = subst (λ (z : Association). Has pc z.store.commands) (sym q) w.0.command;
                    unchanged = w.1;
                  }
              by true e = absurd (none (subst (λ (st : pages.Store). Has pc st.commands) (r.emptied e) w.0.command))
                where
                  none : Has pc [] → ⊥
                  none z = z
