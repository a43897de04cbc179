-- A greeting at the step of the third form.
use Rattle.st_lemmas.proofs.Words
use Words.{◌≡◌, ◌≤◌, length, Stamp}
use Words.bodies
use Words.ClientPasses as passes
use Words.ClientState.{Turn, send}
use Rattle.st_client_frames.proofs.PassFrames.{frame_hello}
use Rattle.st_third.specs.Leave.{hello}
use Rattle.st_third.specs.State.{plainly}
use Rattle.st_third_turn.specs.Steps.{Aside, IsPlaced, shown}
use Rattle.st_third_turn.proofs.Shown.{shown_plainly, still_placed}

pub shown_hello : (a : Aside) (t u : Turn) (now : Stamp) → a.start ≤ length t.out → u ≡ send (passes.with_greeting now t) 0 0 now.0 bodies.Hello → shown u a ≡ plainly (hello now) (shown t a)
unfolding passes.hello
shown_hello a t u now l e = shown_plainly (hello now) (λ xs t. frame_hello xs t now) a t u l e

pub placed_hello : (a : Aside) (t u : Turn) (now : Stamp) → IsPlaced a.words a.start t.out → u ≡ send (passes.with_greeting now t) 0 0 now.0 bodies.Hello → IsPlaced a.words a.start u.out
unfolding passes.hello
placed_hello a t u now h e = still_placed (hello now) (λ xs t. frame_hello xs t now) a.words a.start t u h e
