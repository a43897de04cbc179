-- What an option has.
use Rattle.st_lemmas.proofs.Words
