mod Heard
mod Printed
