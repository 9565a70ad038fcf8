-- What a tick brings, as the host hands it over. Definitions only.
use Rattle.measure.specs.declared.Reading.{Reading}
use Rattle.quality.specs.Quality.{reading_by}
use Rattle.phasor.specs.declared.Phasor.{Phasor}
use Rattle.phasor.specs.declared.Phasors.{Phasors}
use Rattle.input.specs.declared.Input.{Input}
use Rattle.image_input.specs.declared.Sample.{Sample}
use Rattle.image_input.specs.declared.Brought.{Brought}

-- quality 0 is Good, 1 is Held, any other Invalid
abbrev pub reading_of : Sample → Reading
reading_of s = reading_by s.quality s.value

-- 02, ticket 3: "a pair, real and imaginary part"
unfoldable pub phasor_of : Sample → Sample → Phasor
phasor_of re im = record { re = reading_of re; im = reading_of im }

-- "Each tick also brings U_AB, I_bus and I_coupler as a pair"
unfoldable pub phasors_of : Brought → Phasors
phasors_of b =
    record {
      u_ab = phasor_of b.u_ab_re b.u_ab_im;
      i_bus = phasor_of b.i_bus_re b.i_bus_im;
      i_coupler = phasor_of b.i_coupler_re b.i_coupler_im;
    }

unfoldable pub input_of : Brought → Input
input_of b =
    record {
      u_ab = reading_of b.u_ab;
      u0 = reading_of b.u0;
      u2 = reading_of b.u2;
      i_high = reading_of b.i_high;
      i_bus = reading_of b.i_bus;
      i_coupler = reading_of b.i_coupler;
      phasors = phasors_of b;
      contacts = b.contacts;
      bcd = b.bcd;
      sensor = b.sensor;
    }
