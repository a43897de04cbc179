-- A client's step tells each loss once, and each of a lease that was over before the step.
use Rattle.st_lemmas.proofs.Words
use Rattle.st_lemmas.proofs.Tables.{has_map_in}
use Words.{◌≡◌, ℕ, Bool, true, false, ◌||◌, List, [], ◌∷◌, ◌++◌, Option, Some, None, refl, sym, ap, ◌∙◌, subst, inl, inr, if◌then◌else◌}
use Words.{append_assoc, eq-eqb, list_all, list_any, map, AppAnswer, BlockAt, ClientId, Command, Life, ServerId, Stamp, Note, Output, Observation}
use Words.notes
use Words.outputs
use Words.seen
use Words.nodes
use Words.Client as cl
use Words.ClientState.{Association, ClientState}
use Words.Events as ev
use Words.Events.{WorldTurn}
use Words.Keys.{same_client, same_server}
use Words.Lists.{Has}
use Words.Members.{has_left, has_right}
use Words.Tables.{and_both, and_true}
use Words.Truth.{client_is}
use Words.World.{World, WorldClient, clock_of, site_of}
use Rattle.st_rules.specs.declared.world.LeaseLife.{LeaseLife}
use Rattle.st_laws_steps.specs.Client.Losses.{is_ended}
use Rattle.st_laws_steps.specs.Lives.Lives.{LivesHold, Once, ended_rows, lost_row, row_lost, rows_lost, rows_said, server_number}
use Rattle.st_laws_pages.proofs.Lives.LifeSteps.{steps_so}
use Rattle.st_laws_volume.proofs.EventClients.{SiteStep}
use Rattle.st_laws_volume.proofs.LossLines.{is_loss_of}
use Rattle.std.proofs.lemmas.Bool.{eqb-true}
use Rattle.std.proofs.lemmas.List.{append-nil}

-- The servers of the losses that lines tell, and that outputs note.
abbrev of_line : Observation → List ℕ
of_line (seen.Lost d s life) = s.0 ∷ []
of_line o = []

abbrev told : List Observation → List ℕ
told [] = []
told (o ∷ os) = of_line o ++ told os

told_last : (os : List Observation) (o : Observation) → told (os ++ o ∷ []) ≡ told os ++ of_line o
told_last [] o = append-nil (of_line o)
told_last (x ∷ os) o = ap (λ z. of_line x ++ z) (told_last os o) ∙ sym (append_assoc (of_line x) (told os) (of_line o))

told_both : (os ps : List Observation) → told (os ++ ps) ≡ told os ++ told ps
told_both [] ps = refl
told_both (x ∷ os) ps = ap (λ z. of_line x ++ z) (told_both os ps) ∙ sym (append_assoc (of_line x) (told os) (told ps))

abbrev row_server : LeaseLife → ℕ
row_server l = l.server.0

abbrev noted : ClientId → ClientState → Output → List ℕ
noted c before o = map row_server (rows_said c before o)

silent : (os : List Observation) (o : Observation) → of_line o ≡ [] → told (os ++ o ∷ []) ≡ told os ++ []
silent os o q = told_last os o ∙ ap (λ z. told os ++ z) q

nothing : (xs : List ℕ) → xs ≡ xs ++ []
nothing xs = sym (append-nil xs)

note_tells : (c : ClientId) (before : ClientState) (n : Note) (sc : WorldTurn) →
    told (ev.client_notes sc c before n).seen ≡ told sc.seen ++ noted c before (outputs.Note n)
unfolding ev.client_notes ev.accepts ev.patches ev.loses
note_tells c before (notes.Leased s end) sc = silent sc.seen _ refl
note_tells c before (notes.Lost s life) sc = told_last sc.seen (seen.Lost c s life)
note_tells c before (notes.Accepted f p bytes) sc = silent sc.seen _ refl
note_tells c before (notes.Patched f p at bytes) sc = silent sc.seen _ refl
note_tells c before n sc = nothing (told sc.seen)

submit_tells : (c : ClientId) (o : Option WorldClient) (number : ℕ) (at : BlockAt) (what : Command) (sc : WorldTurn) →
    told (ev.submits sc c o number at what).seen ≡ told sc.seen ++ []
unfolding ev.submits
submit_tells c None number at what sc = nothing (told sc.seen)
submit_tells c (Some site) number at what sc = silent sc.seen _ refl

one_tells : (c : ClientId) (before : ClientState) (o : Output) (sc : WorldTurn) → told (ev.client_says sc c before o).seen ≡ told sc.seen ++ noted c before o
unfolding ev.client_says ev.sends ev.answers_with
one_tells c before (outputs.Send m) sc = silent sc.seen _ refl
one_tells c before (outputs.Submit number at what) sc = submit_tells c (site_of sc.world c) number at what sc
one_tells c before (outputs.Answer op answer) sc = silent sc.seen _ refl
one_tells c before (outputs.Note n) sc = note_tells c before n sc

map_both : (xs ys : List LeaseLife) → map row_server (xs ++ ys) ≡ map row_server xs ++ map row_server ys
map_both [] ys = refl
map_both (x ∷ xs) ys = ap (λ z. row_server x ∷ z) (map_both xs ys)

all_tell : (c : ClientId) (before : ClientState) (os : List Output) (sc : WorldTurn) →
    told (ev.client_says_all c before os sc).seen ≡ told sc.seen ++ map row_server (ended_rows c before os)
unfolding ev.client_says_all ended_rows
all_tell c before [] sc = nothing (told sc.seen)
all_tell c before (o ∷ os) sc =
    all_tell c before os (ev.client_says sc c before o)
    ∙ (ap (λ z. z ++ map row_server (ended_rows c before os)) (one_tells c before o sc)
    ∙ (append_assoc (told sc.seen) (noted c before o) (map row_server (ended_rows c before os))
    ∙ ap (λ z. told sc.seen ++ z) (sym (map_both (rows_said c before o) (ended_rows c before os)))))

-- The rows of what a step loses: each is of an association whose lease is over, and they are of different servers.
module _ (c : ClientId) (s : ClientState) (now : Stamp) where
  pub record IsOver (n : ℕ) (al : List Association) : Type 0 where
    pub a : Association
    pub has : Has a al
    pub its : a.server.0 ≡ n
    pub over : is_ended s.config now a.session ≡ true

  row_over : (n : ℕ) (al : List Association) → Has n (map row_server (rows_lost c s now al)) → IsOver n al
  unfolding rows_lost row_lost
  row_over n [] h = absurd h
  row_over n (a ∷ al) h = go (is_ended s.config now a.session) refl h (row_over n al)
    where
      more : IsOver n al → IsOver n (a ∷ al)
      more z = record { a = z.a; has = inr z.has; its = z.its; over = z.over }

      go : (b : Bool) → is_ended s.config now a.session ≡ b →
          Has n (map row_server ((if b then lost_row c s a.server a.life ∷ [] else []) ++ rows_lost c s now al)) →
          (Has n (map row_server (rows_lost c s now al)) → IsOver n al) → IsOver n (a ∷ al)
      go true q (inl e) r = record { a = a; has = inl refl; its = sym e; over = q }
      go true q (inr i) r = more (r i)
      go false q i r = more (r i)

  server_there : (n : ℕ) (al : List Association) → IsOver n al → Has n (map server_number al)
  server_there n al z = subst (λ k. Has k (map server_number al)) z.its (has_map_in server_number al z.a z.has)

  rows_once : (al : List Association) → Once (map server_number al) → Once (map row_server (rows_lost c s now al))
  unfolding rows_lost row_lost
  rows_once [] o = tt
  rows_once (a ∷ al) o = go (is_ended s.config now a.session) (rows_once al o.rest)
    where
      go : (b : Bool) → Once (map row_server (rows_lost c s now al)) →
          Once (map row_server ((if b then lost_row c s a.server a.life ∷ [] else []) ++ rows_lost c s now al))
      go true r = record { first = λ m i e. o.first m (server_there m al (row_over m al i)) e; rest = r }
      go false r = r

-- Lists without doubles.
once_apart : (xs : List ℕ) (n : ℕ) (ys : List ℕ) → Once (xs ++ n ∷ ys) → Has n xs → ⊥
once_apart [] n ys o h = h
once_apart (x ∷ xs) n ys o (inl e) = o.first n (has_right xs (n ∷ ys) n (inl refl)) (sym e)
once_apart (x ∷ xs) n ys o (inr h) = once_apart xs n ys o.rest h

loss_there : (c : ClientId) (s : ServerId) (os : List Observation) → list_any (is_loss_of c s) os ≡ true → Has s.0 (told os)
loss_there c s [] q = cc q
loss_there c s (o ∷ os) q = go (is_loss_of c s o) refl q (loss_there c s os)
  where
    its : (o : Observation) → is_loss_of c s o ≡ true → Has s.0 (of_line o)
    its (seen.Lost d t life) z =
        inl (sym (eqb-true t.0 s.0 (and_true (same_client d c) (same_server t s) z).1))
    its o z = cc z

    go : (b : Bool) → is_loss_of c s o ≡ b → (b || list_any (is_loss_of c s) os) ≡ true → (list_any (is_loss_of c s) os ≡ true → Has s.0 (told os)) →
        Has s.0 (of_line o ++ told os)
    go true e h r = has_left (of_line o) (told os) s.0 (its o e)
    go false e h r = has_right (of_line o) (told os) s.0 (r h)

-- Lines of losses, answers and changes are of the client that takes the step.
abbrev pub mine : ClientId → Observation → Bool
mine c (seen.Lost d s life) = same_client d c
mine c (seen.Answered d op answer) = same_client d c
mine c (seen.Wrote i d f p bytes) = same_client d c
mine c (seen.Patched i d f p at bytes) = same_client d c
mine c o = true

mine_last : (c : ClientId) (os : List Observation) (o : Observation) → mine c o ≡ true → list_all (mine c) os ≡ true → list_all (mine c) (os ++ o ∷ []) ≡ true
mine_last c [] o q h = and_both (mine c o) true q refl
mine_last c (x ∷ os) o q h =
    let b = and_true (mine c x) (list_all (mine c) os) h in and_both (mine c x) (list_all (mine c) (os ++ o ∷ [])) b.0 (mine_last c os o q b.1)

note_mine : (c : ClientId) (before : ClientState) (n : Note) (sc : WorldTurn) → list_all (mine c) sc.seen ≡ true →
    list_all (mine c) (ev.client_notes sc c before n).seen ≡ true
unfolding ev.client_notes ev.accepts ev.patches ev.loses
note_mine c before (notes.Leased s end) sc h = mine_last c sc.seen _ refl h
note_mine c before (notes.Lost s life) sc h = mine_last c sc.seen (seen.Lost c s life) (eq-eqb c.0 c.0 refl) h
note_mine c before (notes.Accepted f p bytes) sc h = mine_last c sc.seen _ (eq-eqb c.0 c.0 refl) h
note_mine c before (notes.Patched f p at bytes) sc h = mine_last c sc.seen _ (eq-eqb c.0 c.0 refl) h
note_mine c before n sc h = h

submit_mine : (c : ClientId) (o : Option WorldClient) (number : ℕ) (at : BlockAt) (what : Command) (sc : WorldTurn) → list_all (mine c) sc.seen ≡ true →
    list_all (mine c) (ev.submits sc c o number at what).seen ≡ true
unfolding ev.submits
submit_mine c None number at what sc h = h
submit_mine c (Some site) number at what sc h = mine_last c sc.seen _ refl h

output_mine : (c : ClientId) (before : ClientState) (o : Output) (sc : WorldTurn) → list_all (mine c) sc.seen ≡ true →
    list_all (mine c) (ev.client_says sc c before o).seen ≡ true
unfolding ev.client_says ev.sends ev.answers_with
output_mine c before (outputs.Send m) sc h = mine_last c sc.seen _ refl h
output_mine c before (outputs.Submit number at what) sc h = submit_mine c (site_of sc.world c) number at what sc h
output_mine c before (outputs.Answer op answer) sc h = mine_last c sc.seen (seen.Answered c op answer) (eq-eqb c.0 c.0 refl) h
output_mine c before (outputs.Note n) sc h = note_mine c before n sc h

all_mine : (c : ClientId) (before : ClientState) (os : List Output) (sc : WorldTurn) → list_all (mine c) sc.seen ≡ true →
    list_all (mine c) (ev.client_says_all c before os sc).seen ≡ true
unfolding ev.client_says_all
all_mine c before [] sc h = h
all_mine c before (o ∷ os) sc h = all_mine c before os (ev.client_says sc c before o) (output_mine c before o sc h)

mine_there : (c : ClientId) (done os : List Observation) (o : Observation) → list_all (mine c) (done ++ o ∷ os) ≡ true → mine c o ≡ true
mine_there c [] os o h = (and_true (mine c o) (list_all (mine c) os) h).0
mine_there c (x ∷ done) os o h = mine_there c done os o (and_true (mine c x) (list_all (mine c) (done ++ o ∷ os)) h).1

-- A step of a client.
module _ (t : World) (sc : WorldTurn) (lives : LivesHold t) (c : ClientId) (s : SiteStep t sc c) where
  abbrev now : Stamp
  now = clock_of t (nodes.Client c)

  tells : told sc.seen ≡ map row_server (rows_lost c s.site.node.state now s.site.node.state.associations)
  tells =
      ap told s.says
      ∙ (all_tell c s.site.node.state (cl.client_step s.site.node.state now s.input).out s.before
      ∙ (ap (λ os. told os ++ map row_server (ended_rows c s.site.node.state (cl.client_step s.site.node.state now s.input).out)) s.unseen
      ∙ ap (map row_server) (steps_so t c s.site s.site s.input s.there refl lives).rows))

  pub lines_mine : list_all (mine c) sc.seen ≡ true
  lines_mine =
      ap (list_all (mine c)) s.says
      ∙ all_mine c s.site.node.state (cl.client_step s.site.node.state now s.input).out s.before (ap (list_all (mine c)) s.unseen)

  -- a line of a loss is of this client, and so is an answer
  pub loss_mine : (d : ClientId) (r : ServerId) (life : Life) (done os : List Observation) → done ++ seen.Lost d r life ∷ os ≡ sc.seen → d ≡ c
  loss_mine d r life done os q = client_is d c (mine_there c done os (seen.Lost d r life) (ap (list_all (mine c)) q ∙ lines_mine))

  pub answer_mine : (d : ClientId) (op : ℕ) (answer : AppAnswer) (done os : List Observation) → done ++ seen.Answered d op answer ∷ os ≡ sc.seen → d ≡ c
  answer_mine d op answer done os q = client_is d c (mine_there c done os (seen.Answered d op answer) (ap (list_all (mine c)) q ∙ lines_mine))

  -- a line of a loss is the only one of its server
  pub loss_once : (d : ClientId) (r : ServerId) (life : Life) (done os : List Observation) → done ++ seen.Lost d r life ∷ os ≡ sc.seen →
      list_any (is_loss_of d r) done ≡ false
  loss_once d r life done os q = go (list_any (is_loss_of d r) done) refl
    where
      once : Once (told done ++ r.0 ∷ told os)
      once =
          subst Once (sym (sym (told_both done (seen.Lost d r life ∷ os)) ∙ (ap told q ∙ tells)))
          (rows_once c s.site.node.state now s.site.node.state.associations (lives.lives.sites c s.site s.there).once)

      go : (b : Bool) → list_any (is_loss_of d r) done ≡ b → b ≡ false
      go true e = absurd (once_apart (told done) r.0 (told os) once (loss_there d r done e))
      go false e = refl

  -- and of a lease that was over
  pub loss_over : (d : ClientId) (r : ServerId) (life : Life) (done os : List Observation) → done ++ seen.Lost d r life ∷ os ≡ sc.seen →
      IsOver c s.site.node.state now r.0 s.site.node.state.associations
  loss_over d r life done os q =
      row_over c s.site.node.state now r.0 s.site.node.state.associations
      (subst (Has r.0) (sym (told_both done (seen.Lost d r life ∷ os)) ∙ (ap told q ∙ tells)) (has_right (told done) (r.0 ∷ told os) r.0 (inl refl)))
