-- A step of a client, at each of its servers in turn: what it does to its lives.
use Rattle.st_lemmas.proofs.Words
use Words.{◌≡◌, ℕ, Bool, true, false, List, [], ◌∷◌, ◌++◌, Option, Some, None, refl, sym, ap, ◌∙◌, subst, inl, inr, if◌then◌else◌, Config, ClientId, Stamp}
use Words.{Note, Output, Tag, DirtyPage, ClientInput, LeaseLife, FileId, PageNo, append_assoc}
use Words.answers
use Words.notes
use Words.outputs
use Words.ClientPages as pages
use Words.ClientState.{ClientSession, Association, ClientState, ClientTurn, Turn, client_turn, enter, leave, at_these, at_each, with_associations, only_at}
use Words.ClientState.{server_of, note}
use Words.ClientPasses as cp
use Words.ClientReplies as cr
use Words.Client as cl
use Words.Lists.{Has}
use Words.Lengths.{nothing_after}
use Words.Truth.{not_both}
use Rattle.st_laws_steps.specs.Client.Losses.{SessionFresh, SessionNext, Fit, is_ended, Loses, Lasts, IsLost, Ends, Unknown, Passes, Hardens, Fails, without}
use Rattle.st_laws_steps.specs.Lives.Lives.{rows_said, ended_rows, row_lost, rows_lost, LifeNext, Pairwise, Stepped}
use Rattle.st_laws_steps.specs.Client.Notes.{IsChanged}
use Rattle.st_laws_steps.specs.Client.Inputs as taking
use Rattle.st_laws_steps.specs.Client.Inputs.{Taken}
use Rattle.st_laws_steps.proofs.Client.Dirtying.{Dirtied, changes_dirty, changed_lasts}
use Rattle.st_laws_steps.proofs.Client.Nexts.{Unlost, AllUnlost, Next, next_same, next_then, changes_next, session_same, session_then}
use Rattle.st_laws_steps.proofs.Client.Asking.{changes_by_passes}
use Rattle.st_laws_steps.proofs.Client.Replying.{changes_by_receive}
use Rattle.st_laws_steps.proofs.Client.Losing.{lose_is, changes_by_only, Finished, finish_is, rest_of}
use Rattle.st_laws_steps.proofs.Client.Taking.{taken}

-- the lives that outputs say to be lost
rows_unlost : (c : ClientId) (s : ClientState) (os : List Output) → AllUnlost os → ended_rows c s os ≡ []
unfolding ended_rows
rows_unlost c s [] u = refl
rows_unlost c s (o ∷ os) u = ap (λ z. z ++ ended_rows c s os) (none o u.one) ∙ rows_unlost c s os u.rest
  where
    note : (n : Note) → Unlost (outputs.Note n) → rows_said c s (outputs.Note n) ≡ []
    note (notes.Lost x l) u = absurd u
    note n u = refl

    none : (o : Output) → Unlost o → rows_said c s o ≡ []
    none (outputs.Note n) u = note n u
    none o u = refl

rows_both : (c : ClientId) (s : ClientState) (os ps : List Output) → ended_rows c s (os ++ ps) ≡ ended_rows c s os ++ ended_rows c s ps
unfolding ended_rows
rows_both c s [] ps = refl
rows_both c s (o ∷ os) ps = ap (λ z. rows_said c s o ++ z) (rows_both c s os ps) ∙ sym (assoc (rows_said c s o) (ended_rows c s os) (ended_rows c s ps))
  where
    assoc : (xs ys zs : List LeaseLife) → (xs ++ ys) ++ zs ≡ xs ++ (ys ++ zs)
    assoc [] ys zs = refl
    assoc (x ∷ xs) ys zs = ap (λ z. x ∷ z) (assoc xs ys zs)

rows_more : (c : ClientId) (s : ClientState) (os ps : List Output) → AllUnlost ps → ended_rows c s (os ++ ps) ≡ ended_rows c s os
rows_more c s os ps u = rows_both c s os ps ∙ ap (λ z. ended_rows c s os ++ z) (rows_unlost c s ps u) ∙ sym (none (ended_rows c s os))
  where
    none : (xs : List LeaseLife) → xs ≡ xs ++ []
    none [] = refl
    none (x ∷ xs) = ap (λ z. x ∷ z) (none xs)

pub all_rows : (f : Association → List LeaseLife) → List Association → List LeaseLife
all_rows f [] = []
all_rows f (a ∷ al) = f a ++ all_rows f al

-- what the rule leaves at one server, with the lives that it says to be lost
pub record Left (R : Association → Association → Type 0) (f : Association → List LeaseLife) (rows : List Output → List LeaseLife) (t u : Turn) : Type 0 where
  pub one : R t.here u.here
  pub said : rows u.out ≡ rows t.out ++ f t.here

record EachIs (R : Association → Association → Type 0) (f : Association → List LeaseLife) (rows : List Output → List LeaseLife) (al : List Association) (t u : ClientTurn) : Type 0 where
  pub id : t.state.id ≡ u.state.id
  pub config : t.state.config ≡ u.state.config
  pub left : List Association
  pub is : u.state.associations ≡ t.state.associations ++ left
  pub pairs : Pairwise R al left
  pub out : rows u.out ≡ rows t.out ++ all_rows f al

these : (P : Association → Type 0) (R : Association → Association → Type 0) (f : Association → List LeaseLife) (rows : List Output → List LeaseLife) (rule : Turn → Turn) (k : Config) →
    ((t : Turn) → t.config ≡ k → P t.here → Left R f rows t (rule t)) → (al : List Association) (t : ClientTurn) → t.state.config ≡ k → ((a : Association) → Has a al → P a) → EachIs R f rows al t (at_these rule al t)
unfolding at_these all_rows
these P R f rows rule k step [] t c p = record { id = refl; config = refl; left = []; is = nothing_after t.state.associations; pairs = tt; out = nothing_after (rows t.out) }
these P R f rows rule k step (a ∷ al) t c p = go (step (enter t a) c (p a (inl refl))) (these P R f rows rule k step al (leave t (rule (enter t a))) c (λ b h. p b (inr h)))
  where
    u : Turn
    u = rule (enter t a)

    go : Left R f rows (enter t a) u → EachIs R f rows al (leave t u) (at_these rule al (leave t u)) → EachIs R f rows (a ∷ al) t (at_these rule al (leave t u))
    go l r =
        record {
          id = r.id;
          config = r.config;
          left = u.here ∷ r.left;
          is = r.is ∙ append_assoc t.state.associations (u.here ∷ []) r.left;
          pairs = record { one = l.one; rest = r.pairs };
          out = r.out ∙ ap (λ z. z ++ all_rows f al) l.said ∙ append_assoc (rows t.out) (f a) (all_rows f al);
        }

-- after a rule at each server, the associations are the ones that it left
pub record EachServer (R : Association → Association → Type 0) (f : Association → List LeaseLife) (rows : List Output → List LeaseLife) (t u : ClientTurn) : Type 0 where
  pub id : t.state.id ≡ u.state.id
  pub config : t.state.config ≡ u.state.config
  pub pairs : Pairwise R t.state.associations u.state.associations
  pub out : rows u.out ≡ rows t.out ++ all_rows f t.state.associations

pub each : (P : Association → Type 0) (R : Association → Association → Type 0) (f : Association → List LeaseLife) (rows : List Output → List LeaseLife) (rule : Turn → Turn) →
    (t : ClientTurn) → ((u : Turn) → u.config ≡ t.state.config → P u.here → Left R f rows u (rule u)) → ((a : Association) → Has a t.state.associations → P a) → EachServer R f rows t (at_each rule t)
unfolding at_each
each P R f rows rule t step p = go (these P R f rows rule t.state.config step t.state.associations (with_associations [] t) refl p)
  where
    u : ClientTurn
    u = at_these rule t.state.associations (with_associations [] t)

    go : EachIs R f rows t.state.associations (with_associations [] t) u → EachServer R f rows t u
    go r = record { id = r.id; config = r.config; pairs = subst (Pairwise R t.state.associations) (sym r.is) r.pairs; out = r.out }

-- Pairs, one after another.
pub pairs_then : (P Q R : Association → Association → Type 0) → ((a b c : Association) → P a b → Q b c → R a c) → (al bs cs : List Association) → Pairwise P al bs → Pairwise Q bs cs → Pairwise R al cs
pairs_then P Q R f [] [] [] p q = tt
pairs_then P Q R f [] [] (c ∷ cs) p q = absurd q
pairs_then P Q R f [] (b ∷ bs) cs p q = absurd p
pairs_then P Q R f (a ∷ al) [] cs p q = absurd p
pairs_then P Q R f (a ∷ al) (b ∷ bs) [] p q = absurd q
pairs_then P Q R f (a ∷ al) (b ∷ bs) (c ∷ cs) p q = record { one = f a b c p.one q.one; rest = pairs_then P Q R f al bs cs p.rest q.rest }

pub pairs_same : (R : Association → Association → Type 0) → ((a : Association) → R a a) → (al : List Association) → Pairwise R al al
pairs_same R f [] = tt
pairs_same R f (a ∷ al) = record { one = f a; rest = pairs_same R f al }

-- what each of one list has, each of the other has
pub pairs_has : (R : Association → Association → Type 0) (P Q : Association → Type 0) → ((a b : Association) → R a b → P a → Q b) → (al bs : List Association) → Pairwise R al bs → ((a : Association) → Has a al → P a) → (b : Association) → Has b bs → Q b
pairs_has R P Q f [] [] r p b h = absurd h
pairs_has R P Q f [] (y ∷ ys) r p b h = absurd r
pairs_has R P Q f (x ∷ xs) [] r p b h = absurd r
pairs_has R P Q f (x ∷ xs) (y ∷ ys) r p b (inl e) = subst Q (sym e) (f x y r.one (p x (inl refl)))
pairs_has R P Q f (x ∷ xs) (y ∷ ys) r p b (inr h) = pairs_has R P Q f xs ys r.rest (λ a i. p a (inr i)) b h

-- A rule that is a list of changes.
pub record Goes (k : Config) (now : Stamp) (a b : Association) : Type 0 where
  pub server : a.server ≡ b.server
  pub life : a.life ≡ b.life
  pub session : SessionNext k now a.session b.session
  pub fit : Fit a → Fit b

pub no_rows : Association → List LeaseLife
no_rows a = []

next_left : (c : ClientId) (s : ClientState) (k : Config) (now : Stamp) (t u : Turn) → t.config ≡ k → Next now t u → Left (Goes k now) no_rows (ended_rows c s) t u
unfolding no_rows
next_left c s k now t u e n =
    record {
      one = record { server = n.server; life = n.life; session = subst (λ z. SessionNext z now t.here.session u.here.session) e n.session; fit = n.fit };
      said = ap (ended_rows c s) n.out ∙ rows_more c s t.out n.more n.unlost ∙ nothing_after (ended_rows c s t.out);
    }

goes_same : (k : Config) (now : Stamp) (a : Association) → Goes k now a a
goes_same k now a = record { server = refl; life = refl; session = session_same k now a.session; fit = λ f. f }

goes_then : (k : Config) (now : Stamp) (a b c : Association) → Goes k now a b → Goes k now b c → Goes k now a c
goes_then k now a b c p q = record { server = p.server ∙ q.server; life = p.life ∙ q.life; session = session_then k now a.session b.session c.session p.session q.session; fit = λ f. q.fit (p.fit f) }

-- What is left of all associations.
pub record LeftAll (c : ClientId) (s : ClientState) (k : Config) (now : Stamp) (t u : ClientTurn) : Type 0 where
  pub id : t.state.id ≡ u.state.id
  pub config : t.state.config ≡ u.state.config
  pub pairs : Pairwise (Goes k now) t.state.associations u.state.associations
  pub out : ended_rows c s u.out ≡ ended_rows c s t.out

no_all_rows : (al : List Association) → all_rows no_rows al ≡ []
unfolding all_rows no_rows
no_all_rows [] = refl
no_all_rows (a ∷ al) = no_all_rows al

pub left_each : (c : ClientId) (s : ClientState) (now : Stamp) (rule : Turn → Turn) (t : ClientTurn) → ((u : Turn) → Fit u.here → Next now u (rule u)) → ((a : Association) → Has a t.state.associations → Fit a) → LeftAll c s t.state.config now t (at_each rule t)
left_each c s now rule t step f = go (each Fit (Goes t.state.config now) no_rows (ended_rows c s) rule t (λ u e p. next_left c s t.state.config now u (rule u) e (step u p)) f)
  where
    go : EachServer (Goes t.state.config now) no_rows (ended_rows c s) t (at_each rule t) → LeftAll c s t.state.config now t (at_each rule t)
    go r = record { id = r.id; config = r.config; pairs = r.pairs; out = r.out ∙ ap (λ z. ended_rows c s t.out ++ z) (no_all_rows t.state.associations) ∙ sym (nothing_after (ended_rows c s t.out)) }

all_same : (c : ClientId) (s : ClientState) (k : Config) (now : Stamp) (t : ClientTurn) → LeftAll c s k now t t
all_same c s k now t = record { id = refl; config = refl; pairs = pairs_same (Goes k now) (goes_same k now) t.state.associations; out = refl }

all_then : (c : ClientId) (s : ClientState) (k : Config) (now : Stamp) (t u v : ClientTurn) → LeftAll c s k now t u → LeftAll c s k now u v → LeftAll c s k now t v
all_then c s k now t u v p q =
    record { id = p.id ∙ q.id; config = p.config ∙ q.config; pairs = pairs_then (Goes k now) (Goes k now) (Goes k now) (goes_then k now) t.state.associations u.state.associations v.state.associations p.pairs q.pairs; out = q.out ∙ p.out }

-- The end of a command.
pub ends_fit : (now : Stamp) (number : ℕ) (ok : Bool) (t u : Turn) → Ends number ok t u → Next now t u
unfolding cl.hardened pages.harden pages.harden_at pages.harden_page pages.fail pages.failed_by
ends_fit now number ok t _ Unknown = next_same now t
ends_fit now number ok t _ (Passes c e o) = record { id = refl; config = refl; server = refl; life = refl; session = session_same t.config now t.here.session; fit = λ f. record { mapped = f.mapped; fresh = fresh t.here.session f.fresh }; more = []; out = nothing_after t.out; unlost = record {} }
  where
    fresh : (s : Option ClientSession) → SessionFresh t.here.store s → SessionFresh (without number t).here.store s
    fresh None x = x
    fresh (Some s) x = x
ends_fit now number ok t _ (Hardens c v e o k w) = record { id = refl; config = refl; server = refl; life = refl; session = session_same t.config now t.here.session; fit = λ f. record { mapped = λ ino p d i. go ino p d f (pages.dirty_of t.here.store.pages c.ino c.page) i; fresh = fresh t.here.session f.fresh }; more = []; out = nothing_after t.out; unlost = record {} }
  where
    fresh : (s : Option ClientSession) → SessionFresh t.here.store s → SessionFresh (cl.hardened (without number t) c).here.store s
    fresh None x = x
    fresh (Some s) x = x

    go : (ino : ℕ) (p : Rattle.st_base.specs.declared.ids.PageNo.PageNo) (d : DirtyPage) → Fit t.here → (o : Option DirtyPage) → pages.dirty_of (pages.harden_at t.here.store.pages o) ino p ≡ Some d → pages.is_mapped t.here.store.extents ino p ≡ true
    go ino p d f None i = f.mapped ino p d i
    go ino p d f (Some x) i = let z = Rattle.st_laws_steps.proofs.Client.Nexts.found_fewer (pages.is_dirty_of ino p) _ t.here.store.pages.dirty d i in f.mapped ino p z.0 z.1
ends_fit now number ok t _ (Fails c v e o k w) = record { id = refl; config = refl; server = refl; life = refl; session = session_same t.config now t.here.session; fit = λ f. record { mapped = λ ino p d i. go ino p d f i; fresh = fresh t.here.session f.fresh }; more = []; out = nothing_after t.out; unlost = record {} }
  where
    fresh : (s : Option ClientSession) → SessionFresh t.here.store s → SessionFresh (cl.with_failed c (without number t)).here.store s
    fresh None x = x
    fresh (Some s) x = x

    go : (ino : ℕ) (p : Rattle.st_base.specs.declared.ids.PageNo.PageNo) (d : DirtyPage) → Fit t.here → pages.dirty_of (pages.fail t.here.store.pages c.ino c.page c.number) ino p ≡ Some d → pages.is_mapped t.here.store.extents ino p ≡ true
    go ino p d f i = let z = Rattle.st_laws_steps.proofs.Client.Nexts.failed_found c.ino c.page c.number ino p t.here.store.pages.dirty d i in f.mapped ino p z.0 z.1

pub finish_next : (now : Stamp) (number : ℕ) (result : Option (Option (Tag × List ℕ))) (t : Turn) → Next now t (cl.finish number result t)
finish_next now number result t = go (finish_is now number result t)
  where
    go : Finished now number (Rattle.st_laws_steps.proofs.Client.Losing.is_done result) t (cl.finish number result t) → Next now t (cl.finish number result t)
    go f = next_then now t f.mid (cl.finish number result t) (ends_fit now number (Rattle.st_laws_steps.proofs.Client.Losing.is_done result) t f.mid f.ends) (changes_next now f.mid (cl.finish number result t) (rest_of f))

-- The input.
pub input_left : (c : ClientId) (s : ClientState) (now : Stamp) (input : ClientInput) (t : ClientTurn) → ((a : Association) → Has a t.state.associations → Fit a) → LeftAll c s t.state.config now t (cl.take_input t now input)
input_left c s now input t f = go (cl.take_input t now input) input (taken t now input)
  where
    at_once : (op : ℕ) (a : Rattle.st_messages.specs.declared.answer.AppAnswer.AppAnswer) → LeftAll c s t.state.config now t (cl.answered_at_once t op a)
    at_once op a = record { id = refl; config = refl; pairs = pairs_same (Goes t.state.config now) (goes_same t.state.config now) t.state.associations; out = rows_more c s t.out _ (record { one = tt; rest = record {} }) }

    go : (u : ClientTurn) (i : ClientInput) → Taken t now i u → LeftAll c s t.state.config now t u
    go _ _ (taking.Nothing i) = all_same c s t.state.config now t
    go _ _ (taking.Full op ask e) = at_once op answers.OpsFull
    go _ _ (taking.Unknown op ask e g) = at_once op answers.NoFile
    go _ _ (taking.Takes op ask e g) = left_each c s now (only_at (server_of ask) (cl.take_ask op ask)) t (λ u p. changes_next now u _ (changes_by_only now (server_of ask) op ask u)) f
    go _ _ (taking.Receives m e) = left_each c s now (cr.receive_at now m.header m.body) t (λ u p. changes_next now u _ (changes_by_receive now m.header m.body u p.fresh)) f
    go _ _ (taking.Finishes number result) = left_each c s now (cl.finish number result) t (λ u p. finish_next now number result u) f

-- an association before and after its loss, or as it was
pub record LostOrNot (k : Config) (now : Stamp) (a b : Association) : Type 0 where
  pub server : a.server ≡ b.server
  pub fit : Fit a → Fit b
  pub lasts : is_ended k now a.session ≡ false → a ≡ b
  pub lost : is_ended k now a.session ≡ true → cl.next_life a.life ≡ b.life
  pub emptied : is_ended k now a.session ≡ true → b.store ≡ pages.empty_store
  pub going : is_ended k now b.session ≡ false

pub empty_fit : (a : Association) → Fit (cl.emptied a)
empty_fit a = record { mapped = λ ino p d e. absurd (none d e); fresh = tt }
  where
    none : (d : DirtyPage) → ◌≡◌ {A = Option DirtyPage} None (Some d) → ⊥
    none d e = cc

-- a loss leaves what fits
pub lost_fit : (now : Stamp) (t u : Turn) → Loses now t u → Fit t.here → Fit u.here
lost_fit now t _ (Lasts n) f = f
lost_fit now t _ (IsLost x i n v m) f = empty_fit v.here

lose_left : (c : ClientId) (s : ClientState) (k : Config) (now : Stamp) (t u : Turn) → t.config ≡ k → s.config ≡ k → Loses now t u → Left (LostOrNot k now) (row_lost c s now) (ended_rows c s) t u
unfolding row_lost ended_rows
lose_left c s k now t _ e q (Lasts n) =
    record {
      one = record { server = refl; fit = λ f. f; lasts = λ z. refl; lost = λ z. absurd (not_both _ z (ap (λ w. is_ended w now t.here.session) (sym e) ∙ n)); emptied = λ z. absurd (not_both _ z (ap (λ w. is_ended w now t.here.session) (sym e) ∙ n)); going = ap (λ w. is_ended w now t.here.session) (sym e) ∙ n };
      said = nothing_after (ended_rows c s t.out) ∙ ap (λ b. ended_rows c s t.out ++ (if b then Rattle.st_laws_steps.specs.Lives.Lives.lost_row c s t.here.server t.here.life ∷ [] else [])) (sym (ap (λ w. is_ended w now t.here.session) (q ∙ sym e) ∙ n));
    }
lose_left c s k now t _ e q (IsLost x i n v m) = go (changes_next now (note t (notes.Lost t.here.server t.here.life)) v m)
  where
    use_row : LeaseLife
    use_row = Rattle.st_laws_steps.specs.Lives.Lives.lost_row c s t.here.server t.here.life

    go : Next now (note t (notes.Lost t.here.server t.here.life)) v → Left (LostOrNot k now) (row_lost c s now) (ended_rows c s) t (cl.empty_here v)
    go n2 =
        record {
          one = record { server = n2.server; fit = λ f. empty_fit v.here; lasts = λ z. absurd (not_both _ (ap (λ w. is_ended w now t.here.session) (sym e) ∙ n) z); lost = λ z. ap cl.next_life n2.life; emptied = λ z. refl; going = refl };
          said =
              ap (ended_rows c s) n2.out ∙ rows_more c s (t.out ++ outputs.Note (notes.Lost t.here.server t.here.life) ∷ []) n2.more n2.unlost
              ∙ rows_both c s t.out (outputs.Note (notes.Lost t.here.server t.here.life) ∷ [])
              ∙ ap (λ b. ended_rows c s t.out ++ (if b then use_row ∷ [] else [])) (sym (ap (λ w. is_ended w now t.here.session) (q ∙ sym e) ∙ n));
        }

all_rows_lost : (c : ClientId) (s : ClientState) (now : Stamp) (al : List Association) → all_rows (row_lost c s now) al ≡ rows_lost c s now al
unfolding all_rows rows_lost
all_rows_lost c s now [] = refl
all_rows_lost c s now (a ∷ al) = ap (λ z. row_lost c s now a ++ z) (all_rows_lost c s now al)

pub record LossesLeft (c : ClientId) (s : ClientState) (now : Stamp) (t u : ClientTurn) : Type 0 where
  pub id : t.state.id ≡ u.state.id
  pub config : t.state.config ≡ u.state.config
  pub pairs : Pairwise (LostOrNot s.config now) t.state.associations u.state.associations
  pub out : ended_rows c s u.out ≡ ended_rows c s t.out ++ rows_lost c s now t.state.associations

pub losses_left : (c : ClientId) (s : ClientState) (now : Stamp) (t : ClientTurn) → t.state.config ≡ s.config → ((a : Association) → Has a t.state.associations → Fit a) → LossesLeft c s now t (cl.losses t now)
unfolding cl.losses
losses_left c s now t e f = go (each Fit (LostOrNot s.config now) (row_lost c s now) (ended_rows c s) (cl.lose now) t (λ u q p. lose_left c s s.config now u (cl.lose now u) (q ∙ e) refl (lose_is now u)) f)
  where
    go : EachServer (LostOrNot s.config now) (row_lost c s now) (ended_rows c s) t (at_each (cl.lose now) t) → LossesLeft c s now t (at_each (cl.lose now) t)
    go r = record { id = r.id; config = r.config; pairs = r.pairs; out = r.out ∙ ap (λ z. ended_rows c s t.out ++ z) (all_rows_lost c s now t.state.associations) }

-- The whole step.
life_next : (s : ClientState) (now : Stamp) (a b c : Association) → LostOrNot s.config now a b → Goes s.config now b c → LifeNext now s a c
life_next s now a b c p q =
    record {
      server = p.server ∙ q.server;
      fit = λ f. q.fit (p.fit f);
      lasts = λ e. let z = p.lasts e in (ap (λ (x : Association). x.life) z ∙ q.life, subst (λ (x : Association). SessionNext s.config now x.session c.session) (sym z) q.session);
      lost = λ e. p.lost e ∙ q.life;
    }

-- The phases of a step: what its losses, its input and its passes leave of the associations, which fit in between.
pub record Phased (c : ClientId) (s : ClientState) (now : Stamp) (t u v : ClientTurn) : Type 0 where
  pub lost : LossesLeft c s now (client_turn s []) t
  pub fit : (a : Association) → Has a t.state.associations → Fit a
  pub received : LeftAll c s t.state.config now t u
  pub fit_too : (a : Association) → Has a u.state.associations → Fit a
  pub worked : LeftAll c s u.state.config now u v

pub phased : (c : ClientId) (s : ClientState) (now : Stamp) (input : ClientInput) → ((a : Association) → Has a s.associations → Fit a) →
    Phased c s now (cl.losses (client_turn s []) now) (cl.take_input (cl.losses (client_turn s []) now) now input) (cl.work (cl.take_input (cl.losses (client_turn s []) now) now input) now input)
unfolding cl.work
phased c s now input f = record { lost = lost; fit = fit; received = received; fit_too = fit_too; worked = left_each c s now (cp.passes now (cl.is_tick input)) u (λ x p. changes_next now x _ (changes_by_passes now (cl.is_tick input) x)) fit_too }
  where
    t : ClientTurn
    t = cl.losses (client_turn s []) now

    u : ClientTurn
    u = cl.take_input t now input

    lost : LossesLeft c s now (client_turn s []) t
    lost = losses_left c s now (client_turn s []) refl f

    fit : (a : Association) → Has a t.state.associations → Fit a
    fit = pairs_has (LostOrNot s.config now) Fit Fit (λ a b r. r.fit) s.associations t.state.associations lost.pairs f

    received : LeftAll c s t.state.config now t u
    received = input_left c s now input t fit

    fit_too : (a : Association) → Has a u.state.associations → Fit a
    fit_too = pairs_has (Goes t.state.config now) Fit Fit (λ a b r. r.fit) t.state.associations u.state.associations received.pairs fit

pub step_lives : (c : ClientId) (s : ClientState) (now : Stamp) (input : ClientInput) → ((a : Association) → Has a s.associations → Fit a) → Stepped now c s (cl.client_step s now input).state (cl.client_step s now input).out
unfolding cl.client_step ended_rows
step_lives c s now input f = go _ _ _ (phased c s now input f)
  where
    go : (t u v : ClientTurn) → Phased c s now t u v → Stepped now c s v.state v.out
    go t u v p = joined (all_then c s s.config now t u v (subst (λ k. LeftAll c s k now t u) (sym p.lost.config) p.received) (subst (λ k. LeftAll c s k now u v) (sym (p.lost.config ∙ p.received.config)) p.worked))
      where
        joined : LeftAll c s s.config now t v → Stepped now c s v.state v.out
        joined r =
            record {
              id = p.lost.id ∙ r.id;
              config = p.lost.config ∙ r.config;
              pairs = pairs_then (LostOrNot s.config now) (Goes s.config now) (LifeNext now s) (life_next s now) s.associations t.state.associations v.state.associations p.lost.pairs r.pairs;
              rows = r.out ∙ p.lost.out;
            }

-- What was noted as changed before the passes lasts through them.
abbrev pub StaysChanged : Config → Stamp → Association → Association → Type 0
StaysChanged k now a b = (f : FileId) (p : PageNo) → IsChanged k now a f p → IsChanged k now b f p

pub changes_last : (c : ClientId) (s : ClientState) (now : Stamp) (input : ClientInput) (t u : ClientTurn) → Phased c s now t u (cl.work u now input) →
    Pairwise (StaysChanged s.config now) u.state.associations (cl.work u now input).state.associations
unfolding cl.work no_rows
changes_last c s now input t u r =
    (each Fit (StaysChanged s.config now) no_rows (λ os. []) (cp.passes now (cl.is_tick input)) u (λ x q p. one u.state.config (sym (r.lost.config ∙ r.received.config)) x _ q (changes_dirty now x _ (changes_by_passes now (cl.is_tick input) x))) r.fit_too).pairs
  where
    one : (k : Config) → k ≡ s.config → (x y : Turn) → x.config ≡ k → Dirtied now x y → Left (StaysChanged s.config now) no_rows (λ os. []) x y
    one k e x y q d =
        record {
          one = λ g p z. changed_lasts s.config now x.here y.here d.next.server (subst (λ w. SessionNext w now x.here.session y.here.session) (q ∙ e) d.next.session) d.dirty g p z;
          said = refl;
        }
