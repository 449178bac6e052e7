-- THE FORMS that the program prints, one a line, in ASCII. Assumes nothing: these are definitions.
use Rattle.std.specs.Prelude.{List, [], ◌∷◌, ◌++◌, ℕ}
use Rattle.starts.specs.Hits.{Hit}
use Rattle.forms.specs.Ascii.{ascii}
use Rattle.forms.specs.Text.{with_number}

-- A HIT in a file, and several
unfoldable pub hit_form : (file place number : ℕ) → List ℕ
hit_form f p n = with_number "(hit " f ++ with_number " " p ++ with_number " " n ++ ascii ")\n"

unfoldable pub hit_forms : (file : ℕ) → List Hit → List ℕ
hit_forms f [] = []
hit_forms f (h ∷ hs) = hit_form f h.place h.number ++ hit_forms f hs

-- a file that was not read to its end
unfoldable pub unread_form : (file : ℕ) → List ℕ
unread_form f = with_number "(unread " f ++ ascii ")\n"

-- the end: files passed, those of them not read to their end, bytes taken, hits
unfoldable pub total_form : (files unread bytes hits : ℕ) → List ℕ
total_form n u b h =
    with_number "(end (files " n ++ with_number ") (unread " u ++ with_number ") (bytes " b ++ with_number ") (hits " h ++ ascii "))\n"
