-- One text as JSON.
use Rattle.std.proofs.Common.{◌≡◌, ◌∙◌, ℕ, List, [], ◌∷◌, ◌++◌, append-nil}
use Rattle.json.specs.Token.{Token, string}
use Rattle.json.specs.Print.{print, print_from, quoted}

-- a text alone has no comma before it
printed : (text : List ℕ) → print (string text ∷ []) ≡ quoted text
unfolding print_from
printed text = append-nil (quoted text)

pub alone : (items before : List ℕ) (tokens : List Token) (text : List ℕ) → items ≡ before ++ print tokens → before ≡ []
    → tokens ≡ string text ∷ [] → items ≡ quoted text
alone items before tokens text made none one = made ∙ rw (none, one) (printed text)
